use Rattle.std.proofs.Common.{rules}
use Rattle.std.proofs.lemmas.List.Sorted.{answers_always}
use Rattle.flow_hub.specs.Asks.{ticket_of}
use Rattle.flow_hub.proofs.Searching.{found_at, none_at}
use Rattle.flow_hub.proofs.unfetched.ticket_at.Goals as goal

pub returns-clause-found : goal.returns-clause-found
returns-clause-found c =
    let found = c.binary_search_by_key.ensures in
    let by_ticket = found.position ticket_of (answers_always _ _ _ (λ f a r g called. search rules)) in
    rw c.ok.ensures.value (found_at ticket_of c.args.answered.now c.args.ticket c.binary_search_by_key.result found.bound by_ticket)

pub returns-clause-none : goal.returns-clause-none
returns-clause-none c =
    let found = c.binary_search_by_key.ensures in
    let by_ticket = found.position ticket_of (answers_always _ _ _ (λ f a r g called. search rules)) in
    rw c.ok.ensures.value (none_at ticket_of c.args.answered.now c.args.ticket c.binary_search_by_key.result c.requires.rising by_ticket)
