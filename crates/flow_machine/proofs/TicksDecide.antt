-- What firing timers does, step by step.
use Rattle.std.proofs.Common.{rules, ◌≡◌, ℕ, zero, suc, ◌+◌, List, [], ◌∷◌, ◌++◌, refl, sym, ap, ◌∙◌, subst, Option, Some, None, inl, inr}
use Rattle.std.specs.Prelude.{◌⊎◌, is_some}
use Rattle.std.proofs.lemmas.List.{append_assoc}
use Rattle.flow_base.specs.declared.book.Due.{Due}
use Rattle.flow_base.specs.declared.book.Change.{Change}
use Rattle.flow_base.specs.declared.command.Reply.TheVariants.{Fired}
use Rattle.flow_model.specs.Book.{Book, least_due, changed, changed_by}
use Rattle.flow_model.specs.Apply.{Rules, Outcome, Firings, fired, on_due, firings, firing_limit, tick}
use Rattle.flow_machine.specs.Deciding.{Decides}
use Rattle.flow_machine.specs.Fitting.{HasUnfit}
use Rattle.flow_machine.specs.Stuck.{where_there, StuckFired, StuckFirings}
use Rattle.flow_machine.specs.Ticking.{Makes, Adds, Fires}
use Rattle.flow_machine.proofs.Ticks.{changed_append, fired_book, goes_on}

-- one timer fired
pub adds : (b b1 b2 : Book) (before after made : List Change) (o : Outcome) → Makes b b1 made o → after ≡ before ++ made → b2 ≡ changed_by b1 made → Adds b b2 before after o
adds b b1 b2 before after made o m listed put =
    record {
      changes_are = listed ∙ ap (λ (l : List Change). before ++ l) m.changes_are;
      book_is = put ∙ ap (λ (x : Book). changed_by x made) m.still ∙ ap (changed_by b) m.changes_are;
    }

-- none is to fire any more
pub none_left : (u : Rules) (at left : ℕ) (b : Book) (changes : List Change) → left ≡ 0 → Fires b changes changes 0 (firings u at left b)
unfolding firings
none_left u at left b changes is =
    subst (λ m. Fires b changes changes 0 (firings u at m b)) (sym is) (record { changes_are = search rules; count_is = refl; book_is = refl })

module _ (u : Rules) (at left n : ℕ) (b : Book) (is : left ≡ suc n) where
  -- nothing is due
  pub none_fires : (b1 : Book) (o : Option Due) (changes : List Change) → (b1 ≡ b) × (o ≡ least_due b at) → o ≡ None → Fires b1 changes changes 0 (firings u at left b)
  unfolding firings
  none_fires b1 o changes seen none =
      let stops : firings u at (suc n) b ≡ on_due None b (goes_on u at n b) = ap (λ (q : Option Due). on_due q b (goes_on u at n b)) (sym seen.1 ∙ none) in
      subst (λ m. Fires b1 changes changes 0 (firings u at m b)) (sym is)
      (subst (λ (q : Firings). Fires b1 changes changes 0 q) (sym stops) (record { changes_are = search rules; count_is = refl; book_is = seen.0 }))

  module _ (b1 : Book) (o : Option Due) (d : Due) (seen : (b1 ≡ b) × (o ≡ least_due b at)) (due : o ≡ Some d) where
    next_is : firings u at (suc n) b ≡ goes_on u at n b d
    unfolding firings
    next_is = ap (λ (q : Option Due). on_due q b (goes_on u at n b)) (sym seen.1 ∙ due)

    -- one more timer fires
    pub one_fires : (b2 b3 : Book) (before between after : List Change) (count : ℕ) → Adds b1 b2 before between (fired u b1 at d) → Fires b3 between after count (firings u at n b2)
        → Fires b3 before after (count + 1) (firings u at left b)
    one_fires b2 b3 before between after count x f =
        let y : Adds b b2 before between (fired u b at d) = subst (λ (k : Book). Adds k b2 before between (fired u k at d)) seen.0 x in
        let made = (fired u b at d).changes in
        let g : Fires b3 between after count (firings u at n (fired_book u at b d)) = subst (λ (k : Book). Fires b3 between after count (firings u at n k)) y.book_is f in
        let more = (firings u at n (fired_book u at b d)).changes in
        let here : Fires b3 before after (count + 1) (goes_on u at n b d) =
        record {
          changes_are = g.changes_are ∙ ap (λ (l : List Change). l ++ more) y.changes_are ∙ append_assoc before made more;
          count_is = ap (λ m. m + 1) g.count_is;
          book_is = g.book_is;
        }
        in
        subst (λ m. Fires b3 before after (count + 1) (firings u at m b)) (sym is) (subst (λ (q : Firings). Fires b3 before after (count + 1) q) (sym next_is) here)

    -- what is wrong with the first firing is wrong with all
    pub stuck_first : StuckFired u.program_of b1 d → StuckFirings u at left b
    unfolding StuckFirings
    stuck_first h =
        let over : StuckFired u.program_of b d = subst (λ (k : Book). StuckFired u.program_of k d) seen.0 h in
        subst (λ m. StuckFirings u at m b) (sym is)
        (subst (λ (q : Option Due). where_there q (λ e. StuckFired u.program_of b e ⊎ StuckFirings u at n (fired_book u at b e))) (sym (sym seen.1 ∙ due)) (inl over))

    pub stuck_later : (b2 : Book) → b2 ≡ changed_by b1 (fired u b1 at d).changes → StuckFirings u at n b2 → StuckFirings u at left b
    unfolding StuckFirings
    stuck_later b2 led h =
        let led_on : b2 ≡ fired_book u at b d = led ∙ ap (λ (k : Book). fired_book u at k d) seen.0 in
        let over : StuckFirings u at n (fired_book u at b d) = subst (StuckFirings u at n) led_on h in
        subst (λ m. StuckFirings u at m b) (sym is)
        (subst (λ (q : Option Due). where_there q (λ e. StuckFired u.program_of b e ⊎ StuckFirings u at n (fired_book u at b e))) (sym (sym seen.1 ∙ due)) (inr over))

    module _ (unfit : Book → Change → Type 0) where
      unfit_before : (k : Book) (cs ds : List Change) → HasUnfit unfit k cs → HasUnfit unfit k (cs ++ ds)
      unfit_before k [] ds h = absurd h
      unfit_before k (c ∷ cs) ds (inl h) = inl h
      unfit_before k (c ∷ cs) ds (inr h) = inr (unfit_before (changed k c) cs ds h)

      unfit_behind : (k : Book) (cs ds : List Change) → HasUnfit unfit (changed_by k cs) ds → HasUnfit unfit k (cs ++ ds)
      unfit_behind k [] ds h = h
      unfit_behind k (c ∷ cs) ds h = inr (unfit_behind (changed k c) cs ds h)

      unfit_all : HasUnfit unfit b (goes_on u at n b d).changes → HasUnfit unfit b (firings u at left b).changes
      unfit_all h = subst (λ m. HasUnfit unfit b (firings u at m b).changes) (sym is) (subst (λ (q : Firings). HasUnfit unfit b q.changes) (sym next_is) h)

      pub unfit_first : HasUnfit unfit b1 (fired u b1 at d).changes → HasUnfit unfit b (firings u at left b).changes
      unfit_first h =
          let over : HasUnfit unfit b (fired u b at d).changes = subst (λ (k : Book). HasUnfit unfit k (fired u k at d).changes) seen.0 h in
          unfit_all (unfit_before b (fired u b at d).changes (firings u at n (fired_book u at b d)).changes over)

      pub unfit_later : (b2 : Book) → b2 ≡ changed_by b1 (fired u b1 at d).changes → HasUnfit unfit b2 (firings u at n b2).changes → HasUnfit unfit b (firings u at left b).changes
      unfit_later b2 led h =
          let led_on : b2 ≡ fired_book u at b d = led ∙ ap (λ (k : Book). fired_book u at k d) seen.0 in
          let over : HasUnfit unfit (fired_book u at b d) (firings u at n (fired_book u at b d)).changes = subst (λ (k : Book). HasUnfit unfit k (firings u at n k).changes) led_on h in
          unfit_all (unfit_behind b (fired u b at d).changes (firings u at n (fired_book u at b d)).changes over)

---- The whole

-- the book that firings leave is the one that their changes make
firings_book : (u : Rules) (at n : ℕ) (b : Book) → (firings u at n b).book ≡ changed_by b (firings u at n b).changes
unfolding firings
firings_book u at zero b = refl
firings_book u at (suc n) b =
    elim (least_due b at) as (λ o. (on_due o b (goes_on u at n b)).book ≡ changed_by b (on_due o b (goes_on u at n b)).changes) [
      | None ↦ refl
      | Some d ↦ firings_book u at n (fired_book u at b d) ∙ sym (changed_append b (fired u b at d).changes (firings u at n (fired_book u at b d)).changes)
    ]

pub ticked : (u : Rules) (at : ℕ) (b b1 b2 : Book) (o : Option Due) (before after : List Change) (count : ℕ) → before ≡ [] → Fires b1 before after count (firings u at firing_limit b)
    → (b2 ≡ b1) × (o ≡ least_due b1 at) → Decides b b2 (Fired count (is_some o)) after (tick u b at)
unfolding tick
ticked u at b b1 b2 o before after count none f seen =
    record {
      reply_is = λ x. Fired (f.count_is x) (is_some ((seen.1 ∙ ap (λ (k : Book). least_due k at) f.book_is) x));
      changes_are = f.changes_are ∙ ap (λ (l : List Change). l ++ (firings u at firing_limit b).changes) none;
      book_is = seen.0 ∙ f.book_is ∙ firings_book u at firing_limit b;
    }
