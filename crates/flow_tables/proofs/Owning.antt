-- What tables keep true of their connection, call by call.
use Rattle.std.specs.Prelude.{◌≡◌, ◌⊎◌}
use Rattle.flow_tables.proofs.Names.{Change, Book, FitsTables, Tells, after_change, Database, Executes, HasCleanDisk, State, Survives, Error, Bool, IsTrue, List, MatchResult, Option, false, true, ℕ, Changes, HasBegun, HasCommitted, HasEnded, HasTables, Holds, IsOver, IsRefused, IsStill, IsUndone, tables_in, Refusal, RowFacts, ViewFault, Err, IfOk, None, Ok, OnOk, Some, [], refl, Result, changed, subst, ◌∙◌, sym, ap, inl, inr, true≢false, was_clean, book_of, IsCutShort, IsOwn, Keeps, IsKnown, ShowsBook, rolled_back_ended, told_answer, IsAware, HasCounted, error_leaves, IsFileOf, IsSure, KeepsOn, WasUp, ReadsBook, IsNoted, Ghosts, kept_book, IsUp}
use Rattle.flow_tables.proofs.Names.{OrCut, WasPut, Shows, AreUtf8, noted_fault, ShowsOddText, IsTypedChange}
use Rattle.flow_tables.specs.Owned.{Stored, state_of, LeavesWritten}
use Rattle.sqlite.specs.State.{IsUnchanged, IsRolledBack}
use Rattle.flow_rows.proofs.Telling.{told}
use Rattle.flow_rows.proofs.WholeChanges.{change_told}
use Rattle.flow_sql.proofs.Leaves.{over_both}
use Rattle.flow_sql.proofs.Places.{tables_are}
use Rattle.flow_sql.proofs.Transactions.{begun_still, committed_over}
use Rattle.flow_tables.proofs.Parts.{refused_first}
use Rattle.flow_tables.proofs.Stopping.{since_then, survived}
use Rattle.flow_tables.proofs.Stops.{IsSettled}

---- What the tables keep true, in a transaction and out of one

pub own_inside : (s : State) (r : Option Refusal) → IsOver true s → ShowsBook s.committed → (r ≡ None → ShowsBook s.now) → IsOwn s r
own_inside s r over kept shows = record {
  over = λ up. subst (λ b. IsOver b s) (sym over.mode) over;
  kept = λ up. kept;
  rest = λ mode up. absurd (let e = sym over.mode ∙ mode in cc);
  whole = λ mode none. (over.is_open, shows none);
}

pub own_outside : (s : State) (r : Option Refusal) → s.in_transaction ≡ false → (IsTrue s.is_open → IsOver false s × (s.now ≡ s.committed) × ShowsBook s.committed) → IsOwn s r
own_outside s r mode shows = record {
  over = λ up. subst (λ b. IsOver b s) (sym mode) (shows up).0;
  kept = λ up. (shows up).2;
  rest = λ _ up. (shows up).1;
  whole = λ inside none. absurd (let e = sym mode ∙ inside in cc);
}

-- the rows of a database that is another tell what the other's tell
tell_on : (a b : Database) → a ≡ b → ShowsBook b → ShowsBook a
tell_on a b same told = subst (λ (d : Database). ShowsBook d) (sym same) told

module _ (old new : State) where
  ---- What keeps the last commit

  pub record LeavesCommit : Type 0 where
    pub was_open : IsTrue new.is_open → IsTrue old.is_open
    pub same : IsTrue new.is_open → new.committed ≡ old.committed

  -- whatever was kept is kept on, where nothing is committed
  pub keeps_on : (ours : Type 0) → (ours → Survives old new (λ _. ⊥)) → (ours → HasCleanDisk new → LeavesCommit) → KeepsOn ours old new
  keeps_on ours survived left fit clean = let survives = survived fit in let leaves = left fit in (
    was_clean old new _ survives clean,
    λ b keeps. record {
      kept = λ up. let it = leaves clean in subst (λ (d : Database). HasTables d × Tells (tables_in d) b) (sym (it.same up)) (keeps.kept (it.was_open up));
      stops = λ db may. elim (survives.crash clean db may) [
        | inl before ↦ keeps.stops db before
        | inr none ↦ absurd none
      ];
    },
  )

  -- what a call that commits nothing goes on from
  pub goes_on : (ours : Type 0) → Survives old new (λ _. ⊥) → (HasCleanDisk new → LeavesCommit) → KeepsOn ours old new × WasUp ours old new × HasCounted ours old new
  goes_on ours survives left = (keeps_on ours (λ _. survives) (λ _. left), λ _ clean up. (left clean).was_open up, λ _ _. survived old new _ survives)

  pub shows_leaves : (inside : Bool) (d : Database) → Shows old new d old.committed inside → LeavesCommit
  shows_leaves inside d h = record { was_open = λ _. h.was_open; same = λ _. h.committed_is }

  pub ended_leaves : HasEnded old new → LeavesCommit
  ended_leaves h = record { was_open = h.was_open; same = λ up. (h.back up).1 }

  pub error_commits_nothing : (sql : List ℕ) (e : Error) → Executes sql [] old new (Err e) → LeavesCommit
  error_commits_nothing sql e h = elim (error_leaves old new sql [] e h) [
    | inl same ↦ shows_leaves old.in_transaction old.now same.0
    | inr undone ↦ ended_leaves (rolled_back_ended old new undone)
  ]

  -- over an open connection
  pub cut_leaves : IsTrue old.is_open → IsCutShort old new → LeavesCommit
  cut_leaves up (inl part) = record { was_open = λ _. up; same = λ _. part.committed }
  cut_leaves up (inr undone) = record { was_open = λ _. up; same = λ shown. (undone.over shown).2 }

  ---- What the tables keep true

  pub own_same : (r : Option Refusal) → IsOwn old r → Shows old new old.now old.committed old.in_transaction → IsOwn new r
  own_same r own h = record {
    over = λ up. let was = own.over h.was_open in record {
      is_open = up;
      mode = refl;
      now = subst HasTables (sym h.now_is) was.now;
      committed = subst HasTables (sym h.committed_is) was.committed;
    };
    kept = λ up. subst (λ (d : Database). ShowsBook d) (sym h.committed_is) (own.kept h.was_open);
    rest = λ mode up. h.now_is ∙ own.rest (sym h.mode ∙ mode) h.was_open ∙ sym h.committed_is;
    whole = λ mode none. (h.is_open, subst (λ (d : Database). ShowsBook d) (sym h.now_is) (own.whole (sym h.mode ∙ mode) none).1);
  }

  -- a transaction that has begun shows what is kept
  pub own_begun : (r : Option Refusal) → IsOwn old r → HasBegun old new → IsOwn new None
  own_begun r own h =
      let still = begun_still old new h (subst (λ b. IsOver b old) h.0 (own.over h.1.was_open)) in
      let kept = own.kept h.1.was_open in
      own_inside new None still.0 (tell_on new.committed old.committed still.2 kept) (λ _. tell_on new.now old.committed (still.1 ∙ own.rest h.0 h.1.was_open) kept)

  -- what has ended shows the last commit
  pub own_ended : (r s : Option Refusal) → IsOwn old r → HasEnded old new → IsOwn new s
  own_ended r s own h =
      own_outside new s h.mode (λ up. let back = h.back up in let was = own.over (h.was_open up) in (
        (over_both false new old.committed old.committed up h.mode back.0 back.1 was.committed was.committed).0,
        back.0 ∙ sym back.1,
        tell_on new.committed old.committed back.1 (own.kept (h.was_open up)),
      ))

  pub own_error : (r : Option Refusal) (sql : List ℕ) (e : Error) → IsOwn old r → Executes sql [] old new (Err e) → IsOwn new r
  own_error r sql e own h = elim (error_leaves old new sql [] e h) [
    | inl same ↦ own_same r own same.0
    | inr undone ↦ own_ended r r own (rolled_back_ended old new undone)
  ]

  -- what was committed is kept
  pub own_committed : (r s : Option Refusal) → r ≡ None → IsOwn old r → HasCommitted old new → IsOwn new s
  own_committed r s none own h =
      let over = committed_over old new h (subst (λ b. IsOver b old) h.0 (own.over h.1.was_open)) in
      own_outside new s h.1.mode (λ up. (over.0, over.1 ∙ sym over.2, tell_on new.committed old.now over.2 (own.whole h.0 none).1))

  module _ (r : Option Refusal) (own : IsOwn old r) (inside : old.in_transaction ≡ true) (none : r ≡ None) where
    up_now : IsTrue old.is_open
    up_now = (own.whole inside none).0

    pub own_over : IsOver true old
    own_over = subst (λ b. IsOver b old) inside (own.over up_now)

    -- what the last commit left is as it was
    still_kept : new.committed ≡ old.committed → ShowsBook new.committed
    still_kept same = tell_on new.committed old.committed same (own.kept up_now)

    pub own_still : (s : Option Refusal) → IsStill true old new → IsOwn new s
    own_still s still = own_inside new s still.0 (still_kept still.2) (λ _. tell_on new.now old.now still.1 (own.whole inside none).1)

    pub own_undone : (s : Option Refusal) → IsUndone old new → IsOwn new s
    own_undone s undone = own_outside new s undone.mode (λ up. let back = undone.over up in (back.0, back.1 ∙ sym back.2, still_kept back.2))

    pub own_refused : (s : Option Refusal) → IsRefused true old new → IsOwn new s
    own_refused s (inl still) = own_still s still
    own_refused s (inr undone) = own_undone s undone

    pub own_cut : (f : Refusal) → IsCutShort old new → IsOwn new (Some f)
    own_cut f (inl part) = own_inside new (Some f) part.over (still_kept part.committed) (λ e. absurd (cc))
    own_cut f (inr undone) = own_undone (Some f) undone

    module _ (c : Change) (typed : IsTypedChange c) (fits : FitsTables (book_of old.now) c) (done : Changes old new (after_change c (tables_in old.now))) where
      put_tells : Tells (tables_in new.now) (changed (book_of old.now) c)
      put_tells =
          subst (λ t. Tells t (changed (book_of old.now) c)) (sym done.tables)
          (change_told (tables_in old.now) (book_of old.now) c (own.whole inside none).1.tells fits typed)

      -- the book that the tables then show
      pub put_book : book_of new.now ≡ changed (book_of old.now) c
      put_book = told (tables_in new.now) (changed (book_of old.now) c) put_tells

      pub own_put : (s : Option Refusal) → IsOwn new s
      own_put s = own_inside new s done.over (still_kept done.committed) (λ _. record { tells = subst (λ b. Tells (tables_in new.now) b) (sym put_book) put_tells; utf8 = done.utf8 (own.whole inside none).1.utf8 })

---- A call of the view, once nothing hinders it

-- what was cut short shows no odd text where there was none
odd_cut : (old new : State) → AreUtf8 (tables_in old.now) → IsCutShort old new → ShowsOddText new → ⊥
odd_cut old new utf8 (inl part) odd = odd.1 (part.utf8 utf8)
odd_cut old new utf8 (inr undone) odd = true≢false (sym odd.0.mode ∙ undone.mode)

module _ (old new : State) (ours : Type 0) (ro rn : Option Refusal) (owned : ours → HasCleanDisk old → IsOwn old ro) (none : ro ≡ None) (inside : old.in_transaction ≡ true) (clean : HasCleanDisk new → HasCleanDisk old) where
  pub holds : ours → Holds true old
  holds fit was = own_over old new ro (owned fit was) inside none

  shows : ours → HasCleanDisk new → IsTrue old.is_open × ShowsBook old.now
  shows fit now = (owned fit (clean now)).whole inside none

  abbrev Read : {A : Type 0} → Result A ViewFault → A → Type 0
  Read r x = MatchResult r (λ v. IsStill true old new × (v ≡ x)) (λ _. IsRefused true old new)

  pub told_at : {A : Type 0} (r : Result A ViewFault) (value : Book → A) → (HasCleanDisk new → ReadsBook old new r value) → ours → HasCleanDisk new → Read r (value (book_of old.now))
  told_at r value reads fit now = reads now (book_of old.now) (shows fit now).1.tells (holds fit)

  refused_so : {A : Type 0} (r : Result A ViewFault) (x : A) → Read r x → IsRefused true old new
  refused_so (Ok v) x h = inl h.0
  refused_so (Err f) x h = h

  -- the transaction goes on to show a book
  pub read_sure : {A : Type 0} (r : Result A ViewFault) (value : Book → A) → (HasCleanDisk new → ReadsBook old new r value) → IsNoted noted_fault r ro rn → (X : Type 0) → OnOk r (ours × HasCleanDisk new → X → IsSure ours new rn)
  read_sure (Ok v) value reads n X = λ fit x. record { fit = fit.0; clean = fit.1; mode = (told_at (Ok v) value reads fit.0 fit.1).0.0.mode; none = n ∙ none }
  read_sure (Err f) value reads n X = tt

  pub read_told : {A : Type 0} (r : Result A ViewFault) (value : Book → A) → (HasCleanDisk new → ReadsBook old new r value) → IsNoted noted_fault r ro rn
      → IfOk r (λ v. IsSure ours new rn → (book_of new.now ≡ book_of old.now) × (v ≡ value (book_of old.now)))
  read_told (Ok v) value reads n = λ sure. let it = told_at (Ok v) value reads sure.fit sure.clean in (ap (λ (d : Database). book_of d) it.0.1, it.1)
  read_told (Err f) value reads n = tt

  -- what is true of what is shown is true on, where nothing was refused
  pub still_so : {A : Type 0} (r : Result A ViewFault) (x : A) (P : Database → Type 0) → Read r x → IsNoted noted_fault r ro rn → P old.now → rn ≡ None → P new.now
  still_so (Ok v) x P h n was same = subst P (sym h.0.1) was
  still_so (Err f) x P h n was same = absurd (let clash = sym n ∙ same in cc)

  module _ {A : Type 0} (r : Result A ViewFault) (value : Book → A) (reads : HasCleanDisk new → ReadsBook old new r value) (noted : IsNoted noted_fault r ro rn) where
    -- it changed nothing, or was refused
    refused_at : ours → HasCleanDisk new → IsRefused true old new
    refused_at fit now = refused_so r (value (book_of old.now)) (told_at r value reads fit now)

    pub read_own : ours → HasCleanDisk new → IsOwn new rn
    read_own fit now = own_refused old new ro (owned fit (clean now)) inside none rn (refused_at fit now)

    -- no text of what it shows then is odd
    pub read_utf8 : ours → HasCleanDisk new → ShowsOddText new → ⊥
    read_utf8 fit now odd = odd_cut old new (shows fit now).1.utf8 (refused_first old new (refused_at fit now)) odd

    pub read_leaves : ours → HasCleanDisk new → LeavesCommit old new
    read_leaves fit now = cut_leaves old new (shows fit now).0 (refused_first old new (refused_at fit now))

  pub follows_on : (a : State) → (ours → Holds true old → Survives old new (λ _. ⊥)) → (ours → HasCleanDisk new → LeavesCommit old new) → KeepsOn ours a old → WasUp ours a old → HasCounted ours a old
      → KeepsOn ours a new × WasUp ours a new × HasCounted ours a new
  follows_on a survives leaves before up counted = (
    λ fit now.
        let on = keeps_on old new ours (λ fit. survives fit (holds fit)) leaves fit now in
        let was = before fit on.0 in
        (was.0, λ b h. on.1 b (was.1 b h)),
    λ fit now shown. up fit (clean now) ((leaves fit now).was_open shown),
    λ fit now. since_then a old new (counted fit (clean now)) (survived old new _ (survives fit (holds fit))),
  )

  abbrev Aware : RowFacts → Type 0
  Aware k = ours → HasCleanDisk old → IsAware old ro k

  abbrev Puts : Result Unit Refusal → Change → RowFacts → Type 0
  Puts r c k = (b : Book) → Tells (tables_in old.now) b → IsKnown k (tables_in old.now) → Holds true old → HasCleanDisk new → OrCut old new r (WasPut b c old new)

  put_at : (r : Result Unit Refusal) (c : Change) (k : RowFacts) → Aware k → Puts r c k → ours → HasCleanDisk new → OrCut old new r (WasPut (book_of old.now) c old new)
  put_at r c k aware put fit now = put (book_of old.now) (shows fit now).1.tells (aware fit (clean now) none inside) (holds fit) now

  pub put_own : (r : Result Unit Refusal) (c : Change) (k : RowFacts) → Aware k → Puts r c k → IsNoted (λ x. x) r ro rn → IsTypedChange c → ours → HasCleanDisk new → IsOwn new rn
  put_own (Ok v) c k aware put n typed fit now = let it = put_at (Ok v) c k aware put fit now in own_put old new ro (owned fit (clean now)) inside none c typed it.0 it.1 rn
  put_own (Err f) c k aware put n typed fit now = subst (λ s. IsOwn new s) (sym n) (own_cut old new ro (owned fit (clean now)) inside none f (put_at (Err f) c k aware put fit now))

  pub put_utf8 : (r : Result Unit Refusal) (c : Change) (k : RowFacts) → Aware k → Puts r c k → IsNoted (λ x. x) r ro rn → ours → HasCleanDisk new → ShowsOddText new → ⊥
  put_utf8 (Ok v) c k aware put n fit now odd = odd.1 ((put_at (Ok v) c k aware put fit now).1.utf8 (shows fit now).1.utf8)
  put_utf8 (Err f) c k aware put n fit now odd = odd_cut old new (shows fit now).1.utf8 (put_at (Err f) c k aware put fit now) odd

  pub put_leaves : (r : Result Unit Refusal) (c : Change) (k : RowFacts) → Aware k → Puts r c k → IsNoted (λ x. x) r ro rn → ours → HasCleanDisk new → LeavesCommit old new
  put_leaves (Ok v) c k aware put n fit now = record { was_open = λ _. (shows fit now).0; same = λ _. (put_at (Ok v) c k aware put fit now).1.committed }
  put_leaves (Err f) c k aware put n fit now = cut_leaves old new (shows fit now).0 (put_at (Err f) c k aware put fit now)

  pub put_sure : (r : Result Unit Refusal) (c : Change) (k : RowFacts) → Aware k → Puts r c k → IsNoted (λ x. x) r ro rn → (X : Type 0) → OnOk (told_answer r) (ours × HasCleanDisk new → X → IsSure ours new rn)
  put_sure (Ok v) c k aware put n X = λ fit x. record { fit = fit.0; clean = fit.1; mode = (put_at (Ok v) c k aware put fit.0 fit.1).1.over.mode; none = n ∙ none }
  put_sure (Err f) c k aware put n X = tt

  pub put_told : (r : Result Unit Refusal) (c : Change) (k : RowFacts) → Aware k → Puts r c k → IsNoted (λ x. x) r ro rn → IsTypedChange c
      → OnOk (told_answer r) (IsSure ours new rn → book_of new.now ≡ changed (book_of old.now) c)
  put_told (Ok v) c k aware put n typed = λ sure. let it = put_at (Ok v) c k aware put sure.fit sure.clean in put_book old new ro (owned sure.fit (clean sure.clean)) inside none c typed it.0 it.1
  put_told (Err f) c k aware put n typed = tt

---- The ends of a transaction

-- the trees of a database that tells a book are a file of it
pub file_of : (d : Database) (b : Book) → HasTables d → Tells (tables_in d) b → IsFileOf d.trees b
file_of d b has tells = record { layout = has.layout; ours = has.lie.ours; tells = subst (λ t. Tells t b) (tables_are has.layout d has.lie) tells }

-- a connection with nothing under way keeps the book that its last commit tells
settled_keeps : (s : State) (b : Book) → IsSettled s → IsTrue s.is_open → HasTables s.committed × Tells (tables_in s.committed) b → Keeps s b
settled_keeps s b law up it = record { kept = λ _. it; stops = λ db may. subst (λ d. IsFileOf d b) (sym (law db up may)) (file_of s.committed b it.0 it.1) }

-- what is kept is the book that was read off, and each stop leaves it
pub keeps_now : (s : State) (r : Option Refusal) (b : Book) → IsSettled s → IsOwn s r → IsTrue s.is_open → book_of s.committed ≡ b → Keeps s b
keeps_now s r b law own up is = settled_keeps s b law up ((own.over up).committed, subst (λ k. Tells (tables_in s.committed) k) is (own.kept up).tells)

-- an open connection keeps a book, in the words of the value
pub keeps_own : {S : Type 0} (g : Ghosts S) (t u : Stored S) → t ≡ u → IsSettled (state_of g t) → IsOwn (state_of g t) t.refused → IsUp g u → Keeps (state_of g u) (kept_book g u)
keeps_own g t u same law own up =
    subst (λ x. Keeps (state_of g x) (kept_book g x)) same (keeps_now (state_of g t) t.refused (kept_book g t) law own (subst (λ x. IsUp g x) (sym same) up) refl)

-- the book that a transaction shows when it begins
pub begun_book : (old new : State) (r : Option Refusal) (b : Book) → HasBegun old new → IsOwn old r → Keeps old b → book_of new.now ≡ b
begun_book old new r b h own keeps =
    ap (λ (d : Database). book_of d) (h.1.now_is ∙ own.rest h.0 h.1.was_open) ∙ told (tables_in old.committed) b (keeps.kept h.1.was_open).1

-- and the book that it showed is kept, where it wasn't
pub commit_kept : (old new : State) (r s : Option Refusal) → r ≡ None → IsSettled new → IsOwn old r → HasCommitted old new → Keeps new (book_of old.now)
commit_kept old new r s none law own h =
    keeps_now new s (book_of old.now) law (own_committed old new r s none own h) h.1.is_open (ap (λ (d : Database). book_of d) h.1.committed_is)

-- a stop leaves what was kept, or the book that was shown
pub written_either : (old new : State) (r : Option Refusal) (b : Book) (sure : Type 0) → r ≡ None → old.in_transaction ≡ true → IsOwn old r → sure → HasCleanDisk new
    → Survives old new (λ db. db ≡ old.now.trees) → Keeps old b → LeavesWritten sure new b (book_of old.now)
written_either old new r b sure none inside own so clean survives keeps db may = elim (survives.crash clean db may) [
  | inl before ↦ inl (keeps.stops db before)
  | inr wrote ↦ inr (so, subst (λ d. IsFileOf d (book_of old.now)) (sym wrote) (file_of old.now (book_of old.now) (own_over old old r own inside none).now (own.whole inside none).1.tells))
]

-- an open connection whose transaction has ended without a commit keeps what it kept
pub ended_still : (old new : State) (b : Book) → IsSettled new → HasEnded old new → IsTrue new.is_open → Keeps old b → Keeps new b
ended_still old new b law ended up keeps =
    settled_keeps new b law up (subst (λ (d : Database). HasTables d × Tells (tables_in d) b) (sym (ended.back up).1) (keeps.kept (ended.was_open up)))
