-- What is gathered from one run more.
use Rattle.std.specs.Prelude.{◌≡◌, ◌+◌, ◌++◌, ◌∷◌, if◌then◌else◌}
use Rattle.flow_maps.proofs.Names.{ℕ, suc, Bool, true, false, List, [], Option, Some, None, filter, length, option_map, refl, sym, ap, ◌∙◌, append_assoc, append-nil, length-append, inl, inr, arith, nat_lt, cases_Bool, ltb-true, ltb-false, Run, is_run_of, signal_in, found_in, signalled_from, least_of, least_from, timers_left, is_open_run, listed_with, outlook_from, Waiting, is_within, moment_of, sooner, soonest, waiting_in, waiting_from, with_next, with_ready, WaitingList, or_later, BookWaits}
use Rattle.flow_maps.proofs.Listing.{filter_on}
use Rattle.flow_maps.proofs.Sooner.{again, passed}

---- Runs that are open

pub open_more : (n : ℕ) (opened : List ℕ) (r : Run) (rs : List Run) → is_open_run r ≡ true → length (opened ++ n ∷ []) + length (filter is_open_run rs) ≡ length opened + length (filter is_open_run (r ∷ rs))
open_more n opened r rs is =
    let others : List Run = filter is_open_run rs in
    let longer : length (opened ++ n ∷ []) ≡ length opened + 1 = length-append opened (n ∷ []) in
    let more : length (opened ++ n ∷ []) + length others ≡ length opened + suc (length others) = omega (arith, longer) in
    more ∙ ap (λ v. length opened + length (if v then r ∷ others else others)) (sym is)

pub closed_more : (k : ℕ) (r : Run) (rs : List Run) → is_open_run r ≡ false → k + length (filter is_open_run rs) ≡ k + length (filter is_open_run (r ∷ rs))
closed_more k r rs is = let others : List Run = filter is_open_run rs in ap (λ v. k + length (if v then r ∷ others else others)) (sym is)

---- When more is to be done

of_three : (best : Option ℕ) (m r : ℕ) → with_next best (sooner (Some m) r) ≡ sooner (sooner best m) r
of_three best m r = elim (cases_Bool (nat_lt r m)) [
  | inl is ↦ ap (λ v. with_next best (if v then Some r else Some m)) is ∙ sym (passed best m r (let less = ltb-true r m is in omega (arith, less)))
  | inr isnt ↦ ap (λ v. with_next best (if v then Some r else Some m)) isnt ∙ sym (again best m r (ltb-false r m isnt))
]

of_both : (best o : Option ℕ) (r : ℕ) → with_next best (sooner o r) ≡ sooner (with_next best o) r
of_both best None r = refl
of_both best (Some m) r = of_three best m r

ready_both : (at : ℕ) (best o : Option ℕ) (w : Waiting) → with_next best (with_ready at o w) ≡ with_ready at (with_next best o) w
ready_both at best o w = by (nat_lt at w.1.ready)
  where
    by : (v : Bool) → with_next best (if v then sooner o w.1.ready else o) ≡ (if v then sooner (with_next best o) w.1.ready else with_next best o)
    by true = of_both best o w.1.ready
    by false = refl

soonest_both : (at : ℕ) (best o : Option ℕ) (ws : List Waiting) → with_next best (soonest at o ws) ≡ soonest at (with_next best o) ws
soonest_both at best o [] = refl
soonest_both at best o (w ∷ ws) = soonest_both at best (with_ready at o w) ws ∙ ap (λ b. soonest at b ws) (ready_both at best o w)

soonest_on : (at : ℕ) (best : Option ℕ) (xs ys : List Waiting) → soonest at best (xs ++ ys) ≡ soonest at (soonest at best xs) ys
soonest_on at best [] ys = refl
soonest_on at best (x ∷ xs) ys = soonest_on at (with_ready at best x) xs ys

---- What runs wait for, with one more that is listed

abbrev told : List Waiting → Option ℕ → ℕ → BookWaits
told ws d k = record { ready = ws; due = d; open_runs = k }

pub listing_begins : (since at : ℕ) (ready : List Waiting) (opened : List ℕ) → ready ≡ [] → opened ≡ [] → (n : ℕ) (rs : List Run)
    → told (ready ++ filter (is_within since at) (waiting_from n rs)) (soonest at (option_map moment_of (least_from 1000000000000000 n None rs)) (waiting_from n rs)) (length opened + length (filter is_open_run rs)) ≡ outlook_from since at n rs
listing_begins since at ready opened none nobody n rs =
    let rest : List Waiting = filter (is_within since at) (waiting_from n rs) in
    let due : Option ℕ = soonest at (option_map moment_of (least_from 1000000000000000 n None rs)) (waiting_from n rs) in
    let count : ℕ = length (filter is_open_run rs) in
    ap (λ ws. told (ws ++ rest) due (length opened + count)) none ∙ ap (λ ns. told rest due (length ns + count)) nobody ∙ ap (λ k. told rest due k) (let same : 0 + count ≡ count = omega arith in same)

pub listing_goes_on : (l l' : WaitingList) (n : ℕ) (r : Run) → l'.since ≡ l.since → l'.at ≡ l.at → l'.ready.items ≡ l.ready.items ++ filter (is_within l.since l.at) (waiting_in n r.tasks) → l'.next ≡ soonest l.at l.next (waiting_in n r.tasks)
    → l'.first ≡ least_of 1000000000000000 n l.first (timers_left r.history)
    → ((rs : List Run) → length l'.opened.items + length (filter is_open_run rs) ≡ length l.opened.items + length (filter is_open_run (r ∷ rs))) → (rs : List Run) → listed_with l' (n + 1) rs ≡ listed_with l n (r ∷ rs)
listing_goes_on l l' n r from same ready next first opened rs =
    let own : List Waiting = waiting_in n r.tasks in
    let rest : List Waiting = waiting_from (n + 1) rs in
    let timer : Option ℕ = option_map moment_of (least_from 1000000000000000 n l.first (r ∷ rs)) in
    let left : ℕ = length l'.opened.items + length (filter is_open_run rs) in
    ap (λ a. told (l'.ready.items ++ filter (is_within a l'.at) rest) (soonest l'.at (with_next (option_map moment_of (least_from 1000000000000000 (n + 1) l'.first rs)) l'.next) rest) left) from
    ∙ ap (λ a. told (l'.ready.items ++ filter (is_within l.since a) rest) (soonest a (with_next (option_map moment_of (least_from 1000000000000000 (n + 1) l'.first rs)) l'.next) rest) left) same
    ∙ ap (λ ws. told ws (soonest l.at (with_next (option_map moment_of (least_from 1000000000000000 (n + 1) l'.first rs)) l'.next) rest) left)
    (ap (λ ws. ws ++ filter (is_within l.since l.at) rest) ready ∙ append_assoc l.ready.items (filter (is_within l.since l.at) own) (filter (is_within l.since l.at) rest) ∙ ap (λ ws. l.ready.items ++ ws) (sym (filter_on (is_within l.since l.at) own rest)))
    ∙ ap (λ d. told (l.ready.items ++ filter (is_within l.since l.at) (own ++ rest)) d left)
    (ap (λ d. soonest l.at (with_next (option_map moment_of (least_from 1000000000000000 (n + 1) d rs)) l'.next) rest) first ∙ ap (λ o. soonest l.at (with_next timer o) rest) next
    ∙ ap (λ b. soonest l.at b rest) (soonest_both l.at timer l.next own) ∙ sym (soonest_on l.at (with_next timer l.next) own rest))
    ∙ ap (λ k. told (l.ready.items ++ filter (is_within l.since l.at) (own ++ rest)) (soonest l.at (with_next timer l.next) (own ++ rest)) k) (opened rs)

-- And with none more that is all.
pub listing_ends : (l : WaitingList) (o : BookWaits) (n : ℕ) → o.ready ≡ l.ready.items → o.due ≡ with_next (option_map moment_of l.first) l.next → o.open_runs ≡ length l.opened.items → o ≡ listed_with l n []
listing_ends l o n ready due opened =
    ap (λ ws. told ws o.due o.open_runs) (ready ∙ sym (append-nil l.ready.items)) ∙ ap (λ d. told (l.ready.items ++ []) d o.open_runs) due
    ∙ ap (λ k. told (l.ready.items ++ []) (with_next (option_map moment_of l.first) l.next) k) (let same : o.open_runs ≡ length l.opened.items + 0 = omega (arith, opened) in same)

---- Where a signal stands

by_flow : (t : Bool) (n : ℕ) (own : Option ℕ) (later : Option (ℕ × ℕ)) → or_later (if t then found_in n own None else None) later ≡ (if t then found_in n own later else later)
by_flow true n None later = refl
by_flow true n (Some e) later = refl
by_flow false n own later = refl

behind : (found own later : Option (ℕ × ℕ)) → or_later (or_later found own) later ≡ or_later found (or_later own later)
behind None own later = refl
behind (Some x) own later = refl

pub found_more : (found own new : Option (ℕ × ℕ)) (flow request : List ℕ) (n : ℕ) (r : Run) (rs : List Run) → own ≡ (if is_run_of flow r then found_in n (signal_in request r.history) None else None) → new ≡ or_later found own
    → or_later new (signalled_from flow request (n + 1) rs) ≡ or_later found (signalled_from flow request n (r ∷ rs))
found_more found own new flow request n r rs is more =
    let later = signalled_from flow request (n + 1) rs in
    ap (λ o. or_later o later) more ∙ behind found own later ∙ ap (λ o. or_later found (or_later o later)) is ∙ ap (λ o. or_later found o) (by_flow (is_run_of flow r) n (signal_in request r.history) later)
