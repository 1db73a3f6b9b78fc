use Rattle.std.proofs.Common.{rules, ◌≡◌, subst, refl, Some, None}
use Rattle.flow_model.specs.Checked.{shown_checked}
use Rattle.flow_patch.specs.Settle.{is_among, settled_ids}
use Rattle.flow_patch.specs.Unsettled.{first_unsettled}
use Rattle.flow_patch.proofs.Settles.{settles_then, settles_never, answered_then}
use Rattle.flow_patch.proofs.settle.settle.Goals as goal

pub returns-in-Ok-clause-same : goal.returns-in-Ok-clause-same
returns-in-Ok-clause-same c =
    let p = shown_checked c.args.old.now in
    let q = shown_checked c.args.new.now in
    let are : c.in_ok-ids.ids.items ≡ settled_ids p q = search rules in
    let same : first_unsettled (is_among c.in_ok-ids.ids.items) p q ≡ None = search rules in subst (λ ids. first_unsettled (is_among ids) p q ≡ None) are same

pub returns-in-Ok-clause-settles : goal.returns-in-Ok-clause-settles
returns-in-Ok-clause-settles c =
    let p = shown_checked c.args.old.now in
    let q = shown_checked c.args.new.now in
    let are : c.in_ok-ids.ids.items ≡ settled_ids p q = search rules in
    let same : first_unsettled (is_among c.in_ok-ids.ids.items) p q ≡ None = search rules in
    settles_then _ p q (subst (λ ids. first_unsettled (is_among ids) p q ≡ None) are same)

pub returns-in-Ok-clause-stands : goal.returns-in-Ok-clause-stands
returns-in-Ok-clause-stands c =
    let p = shown_checked c.args.old.now in
    let q = shown_checked c.args.new.now in
    let are : c.in_ok-ids.ids.items ≡ settled_ids p q = search rules in
    let same : first_unsettled (is_among c.in_ok-ids.ids.items) p q ≡ None = search rules in
    answered_then _ p q (subst (λ ids. first_unsettled (is_among ids) p q ≡ None) are same)

pub returns-in-Err-clause-refused : goal.returns-in-Err-clause-refused
returns-in-Err-clause-refused c =
    let p = shown_checked c.args.old.now in
    let q = shown_checked c.args.new.now in
    let are : c.in_ok-ids.ids.items ≡ settled_ids p q = search rules in
    let other : first_unsettled (is_among c.in_ok-ids.ids.items) p q ≡ Some c.in-Err.at = search rules in
    let here = subst (λ ids. first_unsettled (is_among ids) p q ≡ Some c.in-Err.at) are other in
    (refl, (here, settles_never _ p q c.in-Err.at here))
