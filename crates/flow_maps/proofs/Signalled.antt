-- What a change of a book makes of the places where signals are recorded.
use Rattle.std.specs.Prelude.{◌≡◌, ◌-◌, ◌+◌, if◌then◌else◌, ◌∷◌, ◌++◌, ◌<◌}
use Rattle.flow_maps.proofs.Names.{ℕ, zero, suc, Bool, true, false, cond, List, [], length, take, get_or, Option, Some, None, is_some, slice_get, slice_set, bytes_eq, refl, sym, ap, subst, ◌∙◌, arith, BTreeMap, update, take_more, bytes_eq-Decides, Bytes, Cmd, Event, What, Came, Asked, AddRun, AddTurn, Run, Turn, traces, turn_events, Book, nth, changed, with_run, with_turn, unbegun_run, signal_in, is_signal_of, is_run_of, found_in, signalled, signalled_from, nth_at, at_name, is_name, both, SignalEvents, at_request, asked_by, signal_of, or_later, with_history, AreOf, IsTaken, IsUntaken}
use Rattle.flow_base.specs.declared.event.Input.TheVariants as input
use Rattle.flow_maps.proofs.Naming.{by_name, both_own, both_flow, both_request}
use Rattle.flow_maps.proofs.Planning.{none_is, some_is}
use Rattle.flow_maps.proofs.Serving.{none_is_there, run_is}

pub is_nothing : {A : Type 0} (o : Option A) → is_some o ≡ false → o ≡ None
is_nothing None e = refl
is_nothing (Some y) e = absurd (let x = e in cc)

clash : (b : Bool) → b ≡ true → b ≡ false → ⊥
clash true t f = let e = f in cc
clash false t f = let e = t in cc

bytes_same : (q : Bytes) → bytes_eq q q ≡ true
bytes_same q = (bytes_eq-Decides q q).1 refl

---- First and later

pub or_none : (o : Option (ℕ × ℕ)) → or_later o None ≡ o
or_none None = refl
or_none (Some x) = refl

pub or_both : (a b c : Option (ℕ × ℕ)) → or_later (or_later a b) c ≡ or_later a (or_later b c)
or_both None b c = refl
or_both (Some x) b c = refl

---- What a history records

abbrev named : Bytes → Option Bytes → Bool
named q None = false
named q (Some k) = bytes_eq k q

what_signal : (q : Bytes) (w : What) → (elim w [ Came i ↦ elim i [ input.Signaled name k v ↦ bytes_eq k q | _ ↦ false ] | Asked c ↦ false ]) ≡ named q (elim w [ Came i ↦ asked_by i | Asked c ↦ None ])
what_signal q (Asked c) = refl
what_signal q (Came (input.Started args)) = refl
what_signal q (Came (input.Signaled name k v)) = refl
what_signal q (Came (input.ActivityCompleted of v)) = refl
what_signal q (Came (input.ActivityFailed of reason)) = refl
what_signal q (Came (input.TimerFired of)) = refl
what_signal q (Came (input.Terminated reason)) = refl

signal_is : (q : Bytes) (e : Event) → is_signal_of q e ≡ named q (signal_of e)
signal_is q e = what_signal q e.what

abbrev or_else : Option ℕ → Option ℕ → Option ℕ
or_else None later = later
or_else (Some e) later = Some e

signal_both : (q : Bytes) (h es : List Event) → signal_in q (h ++ es) ≡ or_else (signal_in q h) (signal_in q es)
signal_both q [] es = refl
signal_both q (e ∷ h) es = go (is_signal_of q e) (signal_both q h es)
  where
    go : (b : Bool) → signal_in q (h ++ es) ≡ or_else (signal_in q h) (signal_in q es) → (if b then Some e.id else signal_in q (h ++ es)) ≡ or_else (if b then Some e.id else signal_in q h) (signal_in q es)
    go true rest = refl
    go false rest = rest

pub found_both : (run : ℕ) (q : Bytes) (h es : List Event) → found_in run (signal_in q (h ++ es)) None ≡ or_later (found_in run (signal_in q h) None) (found_in run (signal_in q es) None)
found_both run q h es = ap (λ o. found_in run o None) (signal_both q h es) ∙ go (signal_in q h)
  where
    go : (o : Option ℕ) → found_in run (or_else o (signal_in q es)) None ≡ or_later (found_in run o None) (found_in run (signal_in q es) None)
    go None = refl
    go (Some e) = refl

-- one event
pub found_one : (run : ℕ) (q : Bytes) (e : Event) → found_in run (signal_in q (e ∷ [])) None ≡ (if named q (signal_of e) then Some (run, e.id) else None)
found_one run q e = ap (λ b. found_in run (if b then Some e.id else None) None) (signal_is q e) ∙ go (named q (signal_of e))
  where
    go : (b : Bool) → found_in run (if b then Some e.id else None) None ≡ (if b then Some (run, e.id) else None)
    go true = refl
    go false = refl

traces_none : (q : Bytes) (n at : ℕ) (cs : List Cmd) → signal_in q (traces n at cs) ≡ None
traces_none q n at [] = refl
traces_none q n at (c ∷ cs) = traces_none q (n + 1) at cs

turn_signal : (q : Bytes) (n : ℕ) (t : Turn) → signal_in q (turn_events n t.at t.input t.commands) ≡ (if named q (asked_by t.input) then Some n else None)
turn_signal q n t =
    ap (λ b. if b then Some n else signal_in q (traces (n + 1) t.at t.commands)) (what_signal q (Came t.input))
    ∙ ap (λ o. if named q (asked_by t.input) then Some n else o) (traces_none q (n + 1) t.at t.commands)

---- What a run of a list says

abbrev said : Bytes → Bytes → Run → Option ℕ
said f q r = if is_run_of f r then signal_in q r.history else None

one : (f q : Bytes) (n : ℕ) (r : Run) (rs : List Run) → signalled_from f q n (r ∷ rs) ≡ found_in n (said f q r) (signalled_from f q (n + 1) rs)
one f q n r rs = go (is_run_of f r)
  where
    go : (b : Bool) → (if b then found_in n (signal_in q r.history) (signalled_from f q (n + 1) rs) else signalled_from f q (n + 1) rs) ≡ found_in n (if b then signal_in q r.history else None) (signalled_from f q (n + 1) rs)
    go true = refl
    go false = refl

stays : (f q : Bytes) (n : ℕ) (rs : List Run) (i : ℕ) (r r' : Run) → slice_get rs i ≡ Some r → said f q r' ≡ said f q r → signalled_from f q n (slice_set rs i r') ≡ signalled_from f q n rs
stays f q n [] i r r' at same = absurd (none_is r at)
stays f q n (y ∷ ys) zero r r' at same =
    one f q n r' ys ∙ ap (λ o. found_in n o (signalled_from f q (n + 1) ys)) (same ∙ sym (ap (said f q) (some_is y r at))) ∙ sym (one f q n y ys)
stays f q n (y ∷ ys) (suc i) r r' at same =
    one f q n y (slice_set ys i r') ∙ ap (found_in n (said f q y)) (stays f q (n + 1) ys i r r' at same) ∙ sym (one f q n y ys)

both_none : (n : ℕ) (o : Option ℕ) (later : Option (ℕ × ℕ)) → found_in n o later ≡ None → (o ≡ None) × (later ≡ None)
both_none n None later h = (refl, h)
both_none n (Some e) later h = absurd (none_is (n, e) (sym h))

none_said : (f q : Bytes) (n : ℕ) (rs : List Run) (i : ℕ) (r : Run) → slice_get rs i ≡ Some r → signalled_from f q n rs ≡ None → said f q r ≡ None
none_said f q n [] i r at none = absurd (none_is r at)
none_said f q n (y ∷ ys) zero r at none = ap (said f q) (sym (some_is y r at)) ∙ (both_none n (said f q y) (signalled_from f q (n + 1) ys) (sym (one f q n y ys) ∙ none)).0
none_said f q n (y ∷ ys) (suc i) r at none = none_said f q (n + 1) ys i r at (both_none n (said f q y) (signalled_from f q (n + 1) ys) (sym (one f q n y ys) ∙ none)).1

comes : (f q : Bytes) (n : ℕ) (rs : List Run) (i : ℕ) (r r' : Run) (e : ℕ) → slice_get rs i ≡ Some r → signalled_from f q n rs ≡ None → said f q r' ≡ Some e → signalled_from f q n (slice_set rs i r') ≡ Some (n + i, e)
comes f q n [] i r r' e at none says = absurd (none_is r at)
comes f q n (y ∷ ys) zero r r' e at none says =
    one f q n r' ys ∙ ap (λ o. found_in n o (signalled_from f q (n + 1) ys)) says ∙ ap (λ (k : ℕ). Some (k, e)) (let same : n ≡ n + 0 = omega arith in same)
comes f q n (y ∷ ys) (suc i) r r' e at none says =
    let parts = both_none n (said f q y) (signalled_from f q (n + 1) ys) (sym (one f q n y ys) ∙ none) in
    one f q n y (slice_set ys i r') ∙ ap (λ o. found_in n o (signalled_from f q (n + 1) (slice_set ys i r'))) parts.0
    ∙ comes f q (n + 1) ys i r r' e at parts.1 says ∙ ap (λ (k : ℕ). Some (k, e)) (let same : n + 1 + i ≡ n + suc i = omega arith in same)

found_first : (n : ℕ) (o : Option ℕ) (m later : Option (ℕ × ℕ)) → found_in n o (or_later m later) ≡ or_later (found_in n o m) later
found_first n None m later = refl
found_first n (Some e) m later = refl

-- one more run
at_end : (f q : Bytes) (n : ℕ) (rs : List Run) (r : Run) → signalled_from f q n (rs ++ r ∷ []) ≡ or_later (signalled_from f q n rs) (found_in (n + length rs) (said f q r) None)
at_end f q n [] r = one f q n r [] ∙ ap (λ (k : ℕ). found_in k (said f q r) None) (let same : n ≡ n + 0 = omega arith in same)
at_end f q n (y ∷ ys) r =
    one f q n y (ys ++ r ∷ []) ∙ ap (found_in n (said f q y)) (at_end f q (n + 1) ys r ∙ ap (λ (k : ℕ). or_later (signalled_from f q (n + 1) ys) (found_in k (said f q r) None)) (let same : n + 1 + length ys ≡ n + length (y ∷ ys) = omega arith in same))
    ∙ found_first n (said f q y) (signalled_from f q (n + 1) ys) (found_in (n + length (y ∷ ys)) (said f q r) None)
    ∙ ap (λ o. or_later o (found_in (n + length (y ∷ ys)) (said f q r) None)) (sym (one f q n y ys))

behind : (f q : Bytes) (n : ℕ) (rs : List Run) (r : Run) → said f q r ≡ None → signalled_from f q n (rs ++ r ∷ []) ≡ signalled_from f q n rs
behind f q n [] r none = one f q n r [] ∙ ap (λ o. found_in n o None) none
behind f q n (y ∷ ys) r none = one f q n y (ys ++ r ∷ []) ∙ ap (found_in n (said f q y)) (behind f q (n + 1) ys r none) ∙ sym (one f q n y ys)

---- What a run says behind one more turn

turned_says : (f q : Bytes) (t : Turn) (r : Run) → said f q (with_turn t r) ≡ (if is_run_of f r then or_else (signal_in q r.history) (if named q (asked_by t.input) then Some (length r.history + 1) else None) else None)
turned_says f q t r = ap (λ o. if is_run_of f r then o else None) (signal_both q r.history (turn_events (length r.history + 1) t.at t.input t.commands) ∙ ap (or_else (signal_in q r.history)) (turn_signal q (length r.history + 1) t))

or_else_none : (o : Option ℕ) → or_else o None ≡ o
or_else_none None = refl
or_else_none (Some e) = refl

quiet_says : (f q : Bytes) (t : Turn) (r : Run) → named q (asked_by t.input) ≡ false → said f q (with_turn t r) ≡ said f q r
quiet_says f q t r quiet = turned_says f q t r ∙ ap (λ o. if is_run_of f r then o else None) (ap (λ b. or_else (signal_in q r.history) (if b then Some (length r.history + 1) else None)) quiet ∙ or_else_none (signal_in q r.history))

other_says : (f q : Bytes) (t : Turn) (r : Run) → is_run_of f r ≡ false → said f q (with_turn t r) ≡ said f q r
other_says f q t r other = turned_says f q t r ∙ go (is_run_of f r) other
  where
    go : (b : Bool) → b ≡ false → (if b then or_else (signal_in q r.history) (if named q (asked_by t.input) then Some (length r.history + 1) else None) else None) ≡ (if b then signal_in q r.history else None)
    go true e = absurd (clash true refl e)
    go false e = refl

taken_says : (f q : Bytes) (t : Turn) (r : Run) → is_run_of f r ≡ true → named q (asked_by t.input) ≡ true → said f q r ≡ None → said f q (with_turn t r) ≡ Some (length r.history + 1)
taken_says f q t r own asks none =
    turned_says f q t r ∙ ap (λ b. if b then or_else (signal_in q r.history) (if named q (asked_by t.input) then Some (length r.history + 1) else None) else None) own
    ∙ ap (λ b. or_else (signal_in q r.history) (if b then Some (length r.history + 1) else None)) asks
    ∙ ap (λ o. or_else o (Some (length r.history + 1))) (sym (ap (λ b. if b then signal_in q r.history else None) own) ∙ none)

---- A book with one more turn

abbrev HasTurn : Book → Book → ℕ → Turn → Run → Type 0
HasTurn b c run t r = (i : ℕ) × (run ≡ 1 + i) × (slice_get b.runs i ≡ Some r) × (c.runs ≡ slice_set b.runs i (with_turn t r))

has_turn : (b : Book) (run : ℕ) (t : Turn) (r : Run) → nth b.runs run ≡ Some r → HasTurn b (changed b (AddTurn run t)) run t r
has_turn b zero t r at = absurd (none_is r at)
has_turn b (suc i) t r at =
    let back : suc i - 1 ≡ i = omega arith in
    (i, (let e : suc i ≡ 1 + i = omega arith in e), sym (nth_at b.runs (suc i) i refl) ∙ at, sym (ap (λ (x : Book). x.runs) (run_is b (suc i) (with_turn t) r at)) ∙ ap (λ k. slice_set b.runs k (with_turn t r)) back)

turn_stays : (b c : Book) (run : ℕ) (t : Turn) (r : Run) (f q : Bytes) → HasTurn b c run t r → said f q (with_turn t r) ≡ said f q r → signalled c f q ≡ signalled b f q
turn_stays b c run t r f q (i, number, at, is) same = ap (signalled_from f q 1) is ∙ stays f q 1 b.runs i r (with_turn t r) at same

turn_comes : (b c : Book) (run : ℕ) (t : Turn) (r : Run) (f q : Bytes) → HasTurn b c run t r → is_run_of f r ≡ true → named q (asked_by t.input) ≡ true → signalled b f q ≡ None → signalled c f q ≡ Some (run, length r.history + 1)
turn_comes b c run t r f q (i, number, at, is) own asks none =
    ap (signalled_from f q 1) is
    ∙ comes f q 1 b.runs i r (with_turn t r) (length r.history + 1) at none (taken_says f q t r own asks (none_said f q 1 b.runs i r at none))
    ∙ ap (λ (k : ℕ). Some (k, length r.history + 1)) (sym number)

named_other : (request q : Bytes) (o : Option Bytes) → o ≡ Some request → bytes_eq request q ≡ false → named q o ≡ false
named_other request q None is other = absurd (none_is request is)
named_other request q (Some k) is other = ap (λ x. bytes_eq x q) (some_is k request is) ∙ other

named_own : (request : Bytes) (o : Option Bytes) → o ≡ Some request → named request o ≡ true
named_own request None is = absurd (none_is request is)
named_own request (Some k) is = ap (λ x. bytes_eq x request) (some_is k request is) ∙ bytes_same request

named_none : (q : Bytes) (o : Option Bytes) → o ≡ None → named q o ≡ false
named_none q None is = refl
named_none q (Some k) is = absurd (none_is k (sym is))

-- a run has taken a signal
pub signal_taken : (b : Book) (run count : ℕ) (t : Turn) (r : Run) (flow request : Bytes) → nth b.runs run ≡ Some r → r.flow ≡ flow → length r.history ≡ count → asked_by t.input ≡ Some request
    → IsTaken b (changed b (AddTurn run t)) flow run count request
signal_taken b run count t r flow request at own long asks =
    let has = has_turn b run t r at in
    let c = changed b (AddTurn run t) in
    record {
      others = λ f other q. turn_stays b c run t r f q has (other_says f q t r (ap (λ x. bytes_eq x f) own ∙ other));
      same = λ q other. turn_stays b c run t r flow q has (quiet_says flow q t r (named_other request q (asked_by t.input) asks other));
      taken = λ none. turn_comes b c run t r flow request has (ap (λ x. bytes_eq x flow) own ∙ bytes_same flow) (named_own request (asked_by t.input) asks) none ∙ ap (λ (k : ℕ). Some (run, k + 1)) long;
    }

---- What is known

-- all stays known
pub stays_known : (m : SignalEvents) (b c : Book) → ((f q : Bytes) → signalled c f q ≡ signalled b f q) → AreOf m b → AreOf m c
stays_known m b c same h = λ f q. h f q ∙ sym (same f q)

-- nothing is recorded
pub none_recorded : (m : SignalEvents) (b : Book) → ((f q : Bytes) → at_request m f q ≡ None) → b.runs ≡ [] → AreOf m b
none_recorded m b empty none = λ f q. empty f q ∙ sym (ap (signalled_from f q 1) none)

-- a turn with which no signal came
pub quiet_turn : (b : Book) (run : ℕ) (t : Turn) (r : Run) → nth b.runs run ≡ Some r → asked_by t.input ≡ None → (f q : Bytes) → signalled (changed b (AddTurn run t)) f q ≡ signalled b f q
quiet_turn b run t r at none f q = turn_stays b (changed b (AddTurn run t)) run t r f q (has_turn b run t r at) (quiet_says f q t r (named_none q (asked_by t.input) none))

-- a change of one run that leaves its flow and its history
quiet_set : (b : Book) (n : ℕ) (f : Run → Run) → ((fl q : Bytes) (r : Run) → said fl q (f r) ≡ said fl q r) → (fl q : Bytes) → signalled (with_run b n f) fl q ≡ signalled b fl q
quiet_set b n f same fl q = go (nth b.runs n) refl
  where
    there : (m : ℕ) (r : Run) → nth b.runs m ≡ Some r → (fl q : Bytes) → signalled (record b { runs = slice_set b.runs (m - 1) (f r) }) fl q ≡ signalled b fl q
    there zero r at fl q = absurd (none_is r at)
    there (suc i) r at fl q =
        let back : suc i - 1 ≡ i = omega arith in
        ap (λ k. signalled_from fl q 1 (slice_set b.runs k (f r))) back ∙ stays fl q 1 b.runs i r (f r) (sym (nth_at b.runs (suc i) i refl) ∙ at) (same fl q r)

    go : (o : Option Run) → nth b.runs n ≡ o → signalled (with_run b n f) fl q ≡ signalled b fl q
    go None is = ap (λ (x : Book). signalled x fl q) (sym (none_is_there b n f is))
    go (Some r) is = ap (λ (x : Book). signalled x fl q) (sym (run_is b n f r is)) ∙ there n r is fl q

-- and so one that leaves what it is told by
pub quiet_kept : (b : Book) (n : ℕ) (f : Run → Run) → ((r : Run) → (f r).flow ≡ r.flow) → ((r : Run) → (f r).history ≡ r.history) → (fl q : Bytes) → signalled (with_run b n f) fl q ≡ signalled b fl q
quiet_kept b n f flow history = quiet_set b n f (λ fl q r. ap (λ v. if bytes_eq v fl then signal_in q (f r).history else None) (flow r) ∙ ap (λ h. if bytes_eq r.flow fl then signal_in q h else None) (history r))

first_says : (flow : Bytes) (request : Option Bytes) (text : ℕ) (t : Turn) (f q : Bytes) → said f q (unbegun_run flow request text) ≡ None
first_says flow request text t f q = go (bytes_eq flow f)
  where
    go : (b : Bool) → (if b then signal_in q [] else None) ≡ None
    go true = refl
    go false = refl

-- a run that begins with none
pub quiet_run : (b : Book) (flow : Bytes) (request : Option Bytes) (text : ℕ) (t : Turn) → asked_by t.input ≡ None → (f q : Bytes) → signalled (changed b (AddRun flow request text t)) f q ≡ signalled b f q
quiet_run b flow request text t none f q = behind f q 1 b.runs (with_turn t (unbegun_run flow request text)) (quiet_says f q t (unbegun_run flow request text) (named_none q (asked_by t.input) none) ∙ first_says flow request text t f q)

-- one more run, with those that it has taken
pub append_known : (m m' : SignalEvents) (b : Book) (r : Run) (flow : Bytes) (run : ℕ) (h : List Event) → run ≡ length b.runs + 1 → r.flow ≡ flow → r.history ≡ h
    → ((f q : Bytes) → at_request m' f q ≡ with_history flow run h (at_request m) f q) → AreOf m b → AreOf m' (record b { runs = b.runs ++ r ∷ [] })
append_known m m' b r flow run h number own same more are = λ f q.
    let place : run ≡ 1 + length b.runs = omega (arith, number) in
    let says : said f q r ≡ (if bytes_eq flow f then signal_in q h else None) = ap (λ v. if v then signal_in q r.history else None) (ap (λ x. bytes_eq x f) own) ∙ ap (λ l. if bytes_eq flow f then signal_in q l else None) same in
    more f q ∙ ap (λ o. or_later o (found_in run (if bytes_eq flow f then signal_in q h else None) None)) (are f q)
    ∙ ap (λ (k : ℕ). or_later (signalled b f q) (found_in k (if bytes_eq flow f then signal_in q h else None) None)) place
    ∙ ap (λ o. or_later (signalled b f q) (found_in (1 + length b.runs) o None)) (sym says)
    ∙ sym (at_end f q 1 b.runs r)

-- all signals, with the one that was taken
pub taken_known : (m m' : SignalEvents) (b c : Book) (flow request : Bytes) (run count : ℕ) → IsTaken b c flow run count request → at_request m flow request ≡ None
    → ((f q : Bytes) → at_request m' f q ≡ or_later (at_request m f q) (if bytes_eq (both flow request) (both f q) then Some (run, count + 1) else None)) → AreOf m b → AreOf m' c
taken_known m m' b c flow request run count taken free more are = λ f q. more f q ∙ go f q (bytes_eq flow f) refl
  where
    other : (f q : Bytes) → bytes_eq (both flow request) (both f q) ≡ false → signalled c f q ≡ signalled b f q
        → or_later (at_request m f q) (if bytes_eq (both flow request) (both f q) then Some (run, count + 1) else None) ≡ signalled c f q
    other f q is same = ap (λ v. or_later (at_request m f q) (if v then Some (run, count + 1) else None)) is ∙ or_none (at_request m f q) ∙ are f q ∙ sym same

    own : (q : Bytes) (v : Bool) → bytes_eq request q ≡ v → or_later (at_request m flow q) (if bytes_eq (both flow request) (both flow q) then Some (run, count + 1) else None) ≡ signalled c flow q
    own q true is =
        let same = (bytes_eq-Decides request q).0 is in
        subst (λ x. or_later (at_request m flow x) (if bytes_eq (both flow request) (both flow x) then Some (run, count + 1) else None) ≡ signalled c flow x) same
        (ap (λ v. or_later (at_request m flow request) (if v then Some (run, count + 1) else None)) (both_own flow request) ∙ ap (λ o. or_later o (Some (run, count + 1))) free ∙ sym (taken.taken (sym (are flow request) ∙ free)))
    own q false is = other flow q (both_request flow flow request q is) (taken.same q is)

    go : (f q : Bytes) (v : Bool) → bytes_eq flow f ≡ v → or_later (at_request m f q) (if bytes_eq (both flow request) (both f q) then Some (run, count + 1) else None) ≡ signalled c f q
    go f q true is =
        let same = (bytes_eq-Decides flow f).0 is in
        subst (λ x. or_later (at_request m x q) (if bytes_eq (both flow request) (both x q) then Some (run, count + 1) else None) ≡ signalled c x q) same (own q (bytes_eq request q) refl)
    go f q false is = other f q (both_flow flow f request q is) (taken.others f is q)

---- What a run didn't take

-- the first signal of a request, which the run has taken
pub first_untaken : (b c : Book) (flow request : Bytes) (run count : ℕ) → IsTaken b c flow run count request → signalled b flow request ≡ None → IsUntaken (Some request) flow b c
first_untaken b c flow request run count taken free = λ f q. go f q (bytes_eq flow f) refl
  where
    other : (f q : Bytes) → bytes_eq (both flow request) (both f q) ≡ false → signalled c f q ≡ signalled b f q → signalled b f q ≡ (if bytes_eq (both flow request) (both f q) then None else signalled c f q)
    other f q is same = sym same ∙ sym (ap (λ v. if v then None else signalled c f q) is)

    own : (q : Bytes) (v : Bool) → bytes_eq request q ≡ v → signalled b flow q ≡ (if bytes_eq (both flow request) (both flow q) then None else signalled c flow q)
    own q true is =
        let same = (bytes_eq-Decides request q).0 is in
        subst (λ x. signalled b flow x ≡ (if bytes_eq (both flow request) (both flow x) then None else signalled c flow x)) same
        (free ∙ sym (ap (λ v. if v then None else signalled c flow request) (both_own flow request)))
    own q false is = other flow q (both_request flow flow request q is) (taken.same q is)

    go : (f q : Bytes) (v : Bool) → bytes_eq flow f ≡ v → signalled b f q ≡ (if bytes_eq (both flow request) (both f q) then None else signalled c f q)
    go f q true is =
        let same = (bytes_eq-Decides flow f).0 is in
        subst (λ x. signalled b x q ≡ (if bytes_eq (both flow request) (both x q) then None else signalled c x q)) same (own q (bytes_eq request q) refl)
    go f q false is = other f q (both_flow flow f request q is) (taken.others f is q)

pub untaken_known : (m m' : SignalEvents) (b c : Book) (flow request : Bytes) → ((f q : Bytes) → at_request m' f q ≡ (if bytes_eq (both flow request) (both f q) then None else at_request m f q))
    → IsUntaken (Some request) flow b c → AreOf m c → AreOf m' b
untaken_known m m' b c flow request gone untaken are = λ f q. gone f q ∙ ap (λ o. if bytes_eq (both flow request) (both f q) then None else o) (are f q) ∙ sym (untaken f q)

-- its name is taken out
pub removed : (m n : BTreeMap Bytes (ℕ × ℕ)) (name k : Bytes) → name ≡ k → ((q : Bytes) → at_name n q ≡ update bytes_eq (at_name m) name None q) → (q : Bytes) → at_name n q ≡ (if bytes_eq k q then None else at_name m q)
removed m n name k named updates q = updates q ∙ ap (λ y. update bytes_eq (at_name m) y None q) named ∙ go (bytes_eq k q)
  where
    go : (v : Bool) → cond v None (at_name m q) ≡ (if v then None else at_name m q)
    go true = refl
    go false = refl

---- The map of signals

-- one more, where it isn't there yet
pub one_more : (f g : Bytes → Option (ℕ × ℕ)) (k : Bytes) (x : ℕ × ℕ) → is_some (f k) ≡ false → ((q : Bytes) → g q ≡ update bytes_eq f k (Some x) q) → (q : Bytes) → g q ≡ or_later (f q) (if bytes_eq k q then Some x else None)
one_more f g k x free updates q = updates q ∙ go (bytes_eq k q) refl
  where
    go : (v : Bool) → bytes_eq k q ≡ v → cond v (Some x) (f q) ≡ or_later (f q) (if v then Some x else None)
    go true is = sym (ap (λ o. or_later o (Some x)) (subst (λ y. f y ≡ None) ((bytes_eq-Decides k q).0 is) (is_nothing (f k) free)))
    go false is = sym (or_none (f q))

-- it is there
pub none_more : (f : Bytes → Option (ℕ × ℕ)) (k : Bytes) (x : ℕ × ℕ) → is_some (f k) ≡ true → (q : Bytes) → f q ≡ or_later (f q) (if bytes_eq k q then Some x else None)
none_more f k x there q = go (bytes_eq k q) refl
  where
    own : (o : Option (ℕ × ℕ)) → is_some o ≡ true → o ≡ or_later o (Some x)
    own None e = absurd (clash false e refl)
    own (Some y) e = refl

    go : (v : Bool) → bytes_eq k q ≡ v → f q ≡ or_later (f q) (if v then Some x else None)
    go true is = own (f q) (subst (λ y. is_some (f y) ≡ true) ((bytes_eq-Decides k q).0 is) there)
    go false is = sym (or_none (f q))

-- one more in the map
pub inserted : (m n : BTreeMap Bytes (ℕ × ℕ)) (name k : Bytes) (entry x : ℕ × ℕ) → name ≡ k → entry ≡ x → is_some (at_name m name) ≡ false
    → ((q : Bytes) → at_name n q ≡ cond (is_name name q) (Some entry) (at_name m q)) → (q : Bytes) → at_name n q ≡ or_later (at_name m q) (if bytes_eq k q then Some x else None)
inserted m n name k entry x named same free updates q =
    one_more (at_name m) (at_name n) name entry free (by_name (at_name m) (at_name n) name (Some entry) updates) q
    ∙ ap (λ y. or_later (at_name m q) (if bytes_eq y q then Some entry else None)) named ∙ ap (λ y. or_later (at_name m q) (if bytes_eq k q then Some y else None)) same

-- one event of a run
pub with_event : (flow : Bytes) (run : ℕ) (e : Event) (g g' : Bytes → Bytes → Option (ℕ × ℕ)) (k : Bytes) → signal_of e ≡ Some k
    → ((f q : Bytes) → g' f q ≡ or_later (g f q) (if bytes_eq (both flow k) (both f q) then Some (run, e.id) else None)) → (f q : Bytes) → g' f q ≡ with_history flow run (e ∷ []) g f q
with_event flow run e g g' k is more f q = more f q ∙ ap (or_later (g f q)) (go (bytes_eq flow f) refl)
  where
    own : (v : Bool) → bytes_eq k q ≡ v → bytes_eq flow f ≡ true → (if bytes_eq (both flow k) (both f q) then Some (run, e.id) else None) ≡ found_in run (signal_in q (e ∷ [])) None
    own true here there =
        ap (λ v. if v then Some (run, e.id) else None) (subst (λ x. bytes_eq (both flow k) (both x q) ≡ true) ((bytes_eq-Decides flow f).0 there) (subst (λ x. bytes_eq (both flow k) (both flow x) ≡ true) ((bytes_eq-Decides k q).0 here) (both_own flow k)))
        ∙ sym (found_one run q e ∙ ap (λ o. if named q o then Some (run, e.id) else None) is ∙ ap (λ v. if v then Some (run, e.id) else None) here)
    own false here there =
        ap (λ v. if v then Some (run, e.id) else None) (both_request flow f k q here)
        ∙ sym (found_one run q e ∙ ap (λ o. if named q o then Some (run, e.id) else None) is ∙ ap (λ v. if v then Some (run, e.id) else None) here)

    go : (v : Bool) → bytes_eq flow f ≡ v → (if bytes_eq (both flow k) (both f q) then Some (run, e.id) else None) ≡ found_in run (if bytes_eq flow f then signal_in q (e ∷ []) else None) None
    go true there = own (bytes_eq k q) refl there ∙ ap (λ v. found_in run (if v then signal_in q (e ∷ []) else None) None) (sym there)
    go false there = ap (λ v. if v then Some (run, e.id) else None) (both_flow flow f k q there) ∙ ap (λ v. found_in run (if v then signal_in q (e ∷ []) else None) None) (sym there)

pub without_event : (flow : Bytes) (run : ℕ) (e : Event) (g : Bytes → Bytes → Option (ℕ × ℕ)) → signal_of e ≡ None → (f q : Bytes) → g f q ≡ with_history flow run (e ∷ []) g f q
without_event flow run e g none f q = sym (or_none (g f q)) ∙ ap (or_later (g f q)) (sym (go (bytes_eq flow f)))
  where
    go : (v : Bool) → found_in run (if v then signal_in q (e ∷ []) else None) None ≡ None
    go true = found_one run q e ∙ ap (λ o. if named q o then Some (run, e.id) else None) none
    go false = refl

-- one event more of a history
history_more : (flow : Bytes) (run : ℕ) (h : List Event) (e : Event) (g g' g'' : Bytes → Bytes → Option (ℕ × ℕ)) → ((f q : Bytes) → g' f q ≡ with_history flow run h g f q)
    → ((f q : Bytes) → g'' f q ≡ with_history flow run (e ∷ []) g' f q) → (f q : Bytes) → g'' f q ≡ with_history flow run (h ++ e ∷ []) g f q
history_more flow run h e g g' g'' so more f q =
    more f q ∙ ap (λ o. or_later o (found_in run (if bytes_eq flow f then signal_in q (e ∷ []) else None) None)) (so f q) ∙ go (bytes_eq flow f)
  where
    go : (v : Bool) → or_later (or_later (g f q) (found_in run (if v then signal_in q h else None) None)) (found_in run (if v then signal_in q (e ∷ []) else None) None) ≡ or_later (g f q) (found_in run (if v then signal_in q (h ++ e ∷ []) else None) None)
    go true = or_both (g f q) (found_in run (signal_in q h) None) (found_in run (signal_in q (e ∷ [])) None) ∙ ap (or_later (g f q)) (sym (found_both run q h (e ∷ [])))
    go false = or_none (or_later (g f q) None)

pub history_behind : (flow : Bytes) (run : ℕ) (h : List Event) (i : ℕ) (e : Event) (g g' g'' : Bytes → Bytes → Option (ℕ × ℕ)) → i < length h → e ≡ get_or h i e → ((f q : Bytes) → g' f q ≡ with_history flow run (take i h) g f q)
    → ((f q : Bytes) → g'' f q ≡ with_history flow run (e ∷ []) g' f q) → (f q : Bytes) → g'' f q ≡ with_history flow run (take (i + 1) h) g f q
history_behind flow run h i e g g' g'' lt here so more f q =
    let now : take (i + 1) h ≡ take i h ++ e ∷ [] = take_more h i e lt ∙ ap (λ y. take i h ++ y ∷ []) (sym here) in
    history_more flow run (take i h) e g g' g'' so more f q ∙ ap (λ l. with_history flow run l g f q) (sym now)

-- of a history without events nothing
pub history_begins : (flow : Bytes) (run : ℕ) (g : Bytes → Bytes → Option (ℕ × ℕ)) (f q : Bytes) → g f q ≡ with_history flow run [] g f q
history_begins flow run g f q = sym (or_none (g f q)) ∙ ap (or_later (g f q)) (sym (go (bytes_eq flow f)))
  where
    go : (v : Bool) → found_in run (if v then signal_in q [] else None) None ≡ None
    go true = refl
    go false = refl
