-- What the tables keep true of what is known of the book, call by call.
use Rattle.std.specs.Prelude.{◌≡◌, ◌+◌, ◌<◌, ◌++◌, ◌∷◌}
use Rattle.flow_tables.proofs.Names.{Change, Book, Database, HasCleanDisk, State, Option, false, true, ℕ, HasBegun, HasCommitted, HasEnded, Refusal, ViewFault, Err, IfOk, None, Ok, OnOk, [], length, List, refl, Result, changed, subst, ◌∙◌, sym, ap, true≢false, book_of, tables_in, IsOwn, told_answer, IsSure, ReadsBook, IsNoted, Maps, noted_fault}
use Rattle.std.proofs.Common.{take, get_or}
use Rattle.std.proofs.lemmas.List.{take_more}
use Rattle.flow_maps.specs.Serving.{Serves}
use Rattle.flow_maps.specs.Undoing.{GoesBack, LeadsBack, Returns}
use Rattle.flow_maps.proofs.Undone.{returns_by}
use Rattle.flow_view.specs.Reading.{Reads}
use Rattle.flow_rows.proofs.Telling.{told as told_back}
use Rattle.flow_tables.specs.Owned.{Keeps, IsServing}
use Rattle.flow_tables.proofs.Owning.{LeavesCommit, read_leaves, read_own, told_at, still_so}

---- Runs one after another

pub runs_on : {A : Type 0} (xs : List A) (i : ℕ) (x : A) → x ≡ get_or xs i x → i < length xs → take i xs ++ x ∷ [] ≡ take (i + 1) xs
runs_on xs i x is more = ap (λ y. take i xs ++ y ∷ []) is ∙ sym (take_more xs i x more)

---- The calls

-- nothing is known
pub any_serving : (m : Maps) (s : State) (r : Option Refusal) → ((b : Book) → Serves m b) → ((b c : Book) → GoesBack m b c) → IsServing m s r
any_serving m s r serves back = record {
  last = λ up. returns_by m (book_of s.committed) (book_of s.committed) (back (book_of s.committed) (book_of s.committed)) (serves (book_of s.committed));
  shown = λ none inside. (serves (book_of s.now), back (book_of s.committed) (book_of s.now));
}

-- the book was read whole
pub opened_serving : (m : Maps) (s : State) (r : Option Refusal) (b : Book) → s.in_transaction ≡ false → Keeps s b → Serves m b → ((c : Book) → GoesBack m c c) → IsServing m s r
opened_serving m s r b rest kept serves back = record {
  last = λ up. let was = subst (λ x. Serves m x) (sym (told_back (tables_in s.committed) b (kept.kept up).1)) serves in returns_by m (book_of s.committed) (book_of s.committed) (back (book_of s.committed)) was;
  shown = λ none inside. absurd (true≢false (sym inside ∙ rest));
}

-- all runs were read
pub learnt_serving : (m : Maps) (s : State) (r : Option Refusal) → ((b : Book) → Returns m b) → ((b c : Book) → GoesBack m b c) → (r ≡ None → s.in_transaction ≡ true → Serves m (book_of s.now)) → IsServing m s r
learnt_serving m s r returns back serves = record {
  last = λ up. returns (book_of s.committed);
  shown = λ none inside. (serves none inside, back (book_of s.committed) (book_of s.now));
}

-- something was read of the book that the transaction shows
pub kept_serving : (m m' : Maps) (s : State) (r : Option Refusal) → m'.journal ≡ m.journal → r ≡ None → s.in_transaction ≡ true → (Serves m (book_of s.now) → Serves m' (book_of s.now)) → IsServing m s r → IsServing m' s r
kept_serving m m' s r same none inside serves was =
    let h = was.shown none inside in
    let now = serves h.0 in
    let back = subst (λ j. LeadsBack j (book_of s.committed) (book_of s.now)) (sym same) h.1 in
    record { last = λ up. returns_by m' (book_of s.committed) (book_of s.now) back now; shown = λ _ _. (now, back) }

module _ (old new : State) where
  -- a transaction begins
  pub begun_serving : (r : Option Refusal) (m m' : Maps) → IsOwn old r → HasBegun old new → ((b : Book) → Returns m b → Serves m' b) → ((b : Book) → GoesBack m' b b) → IsServing m old r → IsServing m' new None
  begun_serving r m m' own h serves back was =
      let before = book_of old.committed in
      let kept = serves before (was.last h.1.was_open) in
      record {
        last = λ up. subst (λ (d : Database). Returns m' (book_of d)) (sym h.1.committed_is) (returns_by m' before before (back before) kept);
        shown = λ none inside. (
          subst (λ (d : Database). Serves m' (book_of d)) (sym (h.1.now_is ∙ own.rest h.0 h.1.was_open)) kept,
          subst (λ (d : Database). GoesBack m' (book_of d) (book_of new.now)) (sym h.1.committed_is) (subst (λ (d : Database). GoesBack m' before (book_of d)) (sym (h.1.now_is ∙ own.rest h.0 h.1.was_open)) (back before)),
        );
      }

  -- it is committed
  pub committed_serving : (r s : Option Refusal) (m m' : Maps) → old.in_transaction ≡ true → r ≡ None → HasCommitted old new → ((b : Book) → Serves m b → Serves m' b) → ((b : Book) → GoesBack m' b b) → IsServing m old r → IsServing m' new s
  committed_serving r s m m' inside none h serves back was = record {
    last = λ up. let kept = book_of old.now in subst (λ (d : Database). Returns m' (book_of d)) (sym h.1.committed_is) (returns_by m' kept kept (back kept) (serves kept (was.shown none inside).0));
    shown = λ _ mode. absurd (true≢false (sym mode ∙ h.1.mode));
  }

  -- it has ended otherwise
  pub ended_serving : (r s : Option Refusal) (m : Maps) → HasEnded old new → IsServing m old r → IsServing m new s
  ended_serving r s m h was = record {
    last = λ up. subst (λ (d : Database). Returns m (book_of d)) (sym (h.back up).1) (was.last (h.was_open up));
    shown = λ _ mode. absurd (true≢false (sym mode ∙ h.mode));
  }

  -- what goes back to what was kept before goes back to it now
  still_back : (m : Maps) (b : Book) (rn : Option Refusal) → IsOwn new rn → LeavesCommit old new → rn ≡ None → new.in_transaction ≡ true → GoesBack m (book_of old.committed) b → GoesBack m (book_of new.committed) b
  still_back m b rn own left none mode back = subst (λ (d : Database). GoesBack m (book_of d) b) (sym (left.same (own.whole mode none).0)) back

  module _ (ours : Type 0) (ro rn : Option Refusal) where
    -- something was read
    pub read_serving : (owned : ours → HasCleanDisk old → IsOwn old ro) (none : ro ≡ None) (inside : old.in_transaction ≡ true) (clean : HasCleanDisk new → HasCleanDisk old) {A : Type 0} (result : Result A ViewFault) (value : Book → A)
        (reads : HasCleanDisk new → ReadsBook old new result value) (noted : IsNoted noted_fault result ro rn) (m : Maps) → (ours → HasCleanDisk old → IsServing m old ro) → ours → HasCleanDisk new → IsServing m new rn
    read_serving owned none inside clean {A} result value reads noted m serving fit now =
        let was = serving fit (clean now) in
        let left = read_leaves old new ours ro rn owned none inside clean result value reads noted fit now in
        let own = read_own old new ours ro rn owned none inside clean result value reads noted fit now in
        let told = told_at old new ours ro rn owned none inside clean result value reads fit now in
        record {
          last = λ up. subst (λ (d : Database). Returns m (book_of d)) (sym (left.same up)) (was.last (left.was_open up));
          shown = λ same mode.
              let h = still_so old new ours ro rn owned none inside clean result (value (book_of old.now)) (λ d. Serves m (book_of d) × GoesBack m (book_of old.committed) (book_of d)) told noted (was.shown none inside) same in
              (h.0, still_back m (book_of new.now) rn own left same mode h.1);
        }

    -- the book was changed
    module _ (m m' : Maps) (c : Change) (owns : ours → HasCleanDisk new → IsOwn new rn) (leaves : ours → HasCleanDisk new → LeavesCommit old new) (serves : (b : Book) → Serves m b → Serves m' (changed b c))
        (back : (k b : Book) → Serves m b → GoesBack m k b → GoesBack m' k (changed b c)) where
      pub put_serving : ro ≡ None → old.in_transaction ≡ true → (HasCleanDisk new → HasCleanDisk old) → (ours → HasCleanDisk old → IsServing m old ro) → (result : Result Unit Refusal) → IsNoted (λ x. x) result ro rn
          → OnOk (told_answer result) (IsSure ours new rn → book_of new.now ≡ changed (book_of old.now) c) → ours → HasCleanDisk new → IsServing m' new rn
      put_serving none inside clean serving result noted told fit now = record {
        last = λ up. let left = leaves fit now in subst (λ (d : Database). Returns m' (book_of d)) (sym (left.same up)) (returns_by m' (book_of old.committed) after way there);
        shown = λ same mode. let is = put_is result noted told same mode in (
          subst (λ b. Serves m' b) (sym is) there,
          still_back m' (book_of new.now) rn (owns fit now) (leaves fit now) same mode (subst (λ b. GoesBack m' (book_of old.committed) b) (sym is) way),
        );
      }
        where
          after : Book
          after = changed (book_of old.now) c

          there : Serves m' after
          there = let was = (serving fit (clean now)).shown none inside in serves (book_of old.now) was.0

          way : GoesBack m' (book_of old.committed) after
          way = let was = (serving fit (clean now)).shown none inside in back (book_of old.committed) (book_of old.now) was.0 was.1

          put_is : (r : Result Unit Refusal) → IsNoted (λ x. x) r ro rn → OnOk (told_answer r) (IsSure ours new rn → book_of new.now ≡ changed (book_of old.now) c) → rn ≡ None → new.in_transaction ≡ true → book_of new.now ≡ after
          put_is (Ok u) n t same mode = t (record { fit = fit; clean = now; mode = mode; none = same })
          put_is (Err f) n t same mode = absurd (let clash = sym n ∙ same in cc)

---- An answer behind another read

-- the other one left the book as it was
pub read_behind : {A E : Type 0} (r : Result A E) (middle last : Type 0) (b b' b'' : Book) (value : Book → A) → (middle → b' ≡ b) → (last → middle) → IfOk r (λ v. Reads last b' b'' v (value b')) → IfOk r (λ v. Reads last b b'' v (value b))
read_behind (Ok v) middle last b b' b'' value one was two = λ sure. let first = one (was sure) in let later = two sure in (later.0 ∙ first, later.1 ∙ ap value first)
read_behind (Err f) middle last b b' b'' value one was two = tt

pub read_on : {A E : Type 0} (r : Result A E) (middle last : Type 0) (b b' b'' : Book) → (middle → b' ≡ b) → (last → middle) → OnOk r (last → b'' ≡ b') → OnOk r (last → b'' ≡ b)
read_on (Ok v) middle last b b' b'' one was two = λ sure. two sure ∙ one (was sure)
read_on (Err f) middle last b b' b'' one was two = tt

pub goes_behind : {A E : Type 0} (r : Result A E) (X Y Y' Z : Type 0) → (X → Y → Y') → OnOk r (X → Y' → Z) → OnOk r (X → Y → Z)
goes_behind (Ok v) X Y Y' Z one two = λ x y. two x (one x y)
goes_behind (Err f) X Y Y' Z one two = tt
