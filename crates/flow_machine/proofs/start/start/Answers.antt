use Rattle.std.proofs.Common.{rules, ◌≡◌, ◌∙◌, Some, None}
use Rattle.flow_model.specs.Book.{nth, requested}
use Rattle.flow_machine.proofs.Started.{finds_text}
use Rattle.flow_machine.proofs.start.start.Goals as goal

pub returns-clause-finds : goal.returns-clause-finds
returns-clause-finds g c = λ sure.
    let book = g.V.View.book in
    let old = book c.args.view.now in
    let asked = c.text.ensures.sure (c.start_text.ensures.called.sure sure) in
    let request = c.in_ok-run.ensures.reads asked in
    let text = c.in_ok-body.ensures.reads (c.start_text.ensures.called.sure sure) in
    let unknown : requested old c.args.asked.now.request ≡ None = search rules in
    let there : nth old.texts c.args.asked.now.text ≡ Some c.in-Some-2.body = search rules in
    finds_text g.P.Programs.meaning old (book c.text.new.self) (book c.start_text.new.view) c.args.asked.now _ c.in_ok-reply.reply c.in_ok-reply.changes.items (text.0 ∙ request.0) unknown there (c.in_ok-reply.ensures.finds sure)
