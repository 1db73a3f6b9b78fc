use Rattle.std.proofs.Common.{◌∙◌, refl}
use Rattle.flow_cli.proofs.Listings.{none_listed, page_more, all_listed, page_cut, list_caused}
use Rattle.flow_cli.proofs.listing.tell_open.Goals as goal

pub loop-init : goal.loop-init
loop-init g c = record { listed = λ sure. (refl, none_listed _ _ c.first_run-from.result _ c.first_run-from.ensures); output = refl; since = λ e b cs s h. h; sure = λ s. s; follows = λ a f. f }

pub loop-preserved : goal.loop-preserved
loop-preserved g c =
    let told = rw c.in-Ok-Some.field-0-is at c.in-Ok-Some.ensures.told in
    record {
      listed = λ sure. (let was = c.loop.invariant.listed (c.tell_page.ensures.sure sure) in page_more g.E.Answering.rules _ _ _ c.loop.from c.loop.counter _ _ _ _ was.0 c.page_size.ensures was.1 c.in-Ok-Some.next (told sure));
      output = c.in-Ok-Some.ensures.output ∙ c.loop.invariant.output;
      since = λ e b cs s h. c.loop.invariant.since e b cs s (c.in-Ok-Some.ensures.since e b cs s h);
      sure = λ s. c.loop.invariant.sure (c.tell_page.ensures.sure s);
      follows = λ a f. c.tell_page.ensures.follows a (c.loop.invariant.follows a f);
    }

pub returns-in-Ok-None-clause-told : goal.returns-in-Ok-None-clause-told
returns-in-Ok-None-clause-told g c sure =
    let told = rw c.in-Ok-None.field-0-is at c.in-Ok-None.ensures.told in
    let was = c.loop.invariant.listed (c.tell_page.ensures.sure sure) in
    all_listed g.E.Answering.rules _ _ _ c.loop.from c.loop.counter _ _ _ _ was.0 c.page_size.ensures was.1 (told sure)

pub returns-in-Err-clause-part : goal.returns-in-Err-clause-part
returns-in-Err-clause-part g c sure =
    let was = c.loop.invariant.listed (c.tell_page.ensures.sure sure) in
    page_cut g.E.Answering.rules _ _ (g.E.Answering.book c.tell_page.new.engine) c.loop.from c.loop.counter _ _ _ _ was.0 c.page_size.ensures was.1 (c.in-Err.ensures.part sure)

pub returns-in-Err-clause-cause : goal.returns-in-Err-clause-cause
returns-in-Err-clause-cause g c =
    let old = c.args.engine.now in
    let mid = c.loop.engine in
    let new = c.tell_page.new.engine in
    let on = c.tell_page.ensures.follows mid (g.met.E.Answering.follows_self mid) in
    let since = c.loop.invariant.follows old (g.met.E.Answering.follows_self old) in
    list_caused old mid new g.E.Answering.book g.E.Answering.gives_up g.E.Answering.stops (g.E.Answering.is_sure new) c.in-Err.fault c.loop.from _ c.page_size.ensures
    (λ sure. (c.loop.invariant.listed (c.tell_page.ensures.sure sure)).0)
    (λ b cs k. g.met.E.Answering.gives_up_since old mid new b cs k since on)
    (λ b cs s. c.loop.invariant.since new b cs s) c.in-Err.ensures.cause
