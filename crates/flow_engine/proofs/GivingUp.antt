-- Why batches are given up, one after the other.
use Rattle.std.proofs.Common.{◌≡◌, inl, inr, ◌+◌, ◌≤◌, ◌^◌, true, false, List, [], ◌∷◌, ◌++◌, length, map, refl, sym, ◌∙◌, subst, arith}
use Rattle.std.proofs.lemmas.Bool.{cases_Bool}
use Rattle.std.proofs.lemmas.List.{length-map}
use Rattle.sqlite_trees.specs.declared.store.Store.{Ghosts}
use Rattle.flow_base.specs.declared.code.Code.{Code}
use Rattle.flow_base.specs.declared.code.Code.TheVariants as code
use Rattle.flow_base.specs.declared.command.Command.{Command}
use Rattle.flow_model.specs.Book.{Book}
use Rattle.flow_model.specs.Apply.{after, after_one}
use Rattle.flow_model.proofs.Logs.{after_cut}
use Rattle.flow_model.specs.Answers.{IsGivenUp}
use Rattle.flow_model.specs.declared.answer.Answer.{Answer}
use Rattle.flow_base.specs.declared.submission.Taken.{Taken}
use Rattle.flow_base.specs.declared.submission.Receipt.{Receipt}
use Rattle.flow_view.specs.Codes.{view_fault_code}
use Rattle.flow_view.specs.declared.fault.ViewFault.{ViewFault}
use Rattle.flow_view.specs.declared.fault.ViewFault.TheVariants as fault
use Rattle.flow_tables.specs.Owned.{state_of}
use Rattle.flow_commit.specs.Keeping.{Keeping, rules, IsFit, IsUp, kept_book, command_of, commands_of}
use Rattle.flow_commit.specs.Committing.{HasGoneOn, HasNoRoom, IsRefusedFor}
use Rattle.flow_commit.specs.declared.outcome.Outcome.TheVariants as outcomes
use Rattle.flow_commit.proofs.Sealing.{shut_on}
use Rattle.flow_engine.specs.declared.done.Done.{Done}
use Rattle.flow_engine.specs.declared.done.Done.TheVariants as done
use Rattle.flow_engine.specs.Answering.{AreCaused, AreSingle, alone, given, replied}
use Rattle.flow_engine.specs.Driving.{if_kept, kept_of}
use Rattle.flow_engine.specs.Following.{refused_still}
use Rattle.flow_engine.specs.GivingUp.{AreGivenUp, GivesUp, IsGivenUpFor, WasRefused}

---- One batch

module _ {S : Type 0} (g : Ghosts S) (old new : Keeping S) where
  no_room : (batch : List Taken) → old.kept ≤ new.kept → HasNoRoom old.kept batch → 2 ^ 63 ≤ new.kept + length (commands_of batch)
  no_room batch more many = let long : length (commands_of batch) ≡ length batch = length-map batch command_of in omega (arith, more, many, long)

  -- the cause that a commit tells
  pub refused_done : (batch back : List Taken) (f : ViewFault) → old.kept ≤ new.kept → IsRefusedFor g old new batch (outcomes.NotApplied back f) → IsGivenUpFor (WasRefused g old new) (kept_book g old) batch (done.NotApplied f)
  refused_done batch back (fault.NoMemory _) more h = tt
  refused_done batch back fault.StoreRefused more (inl many) = inl (no_room batch more many)
  refused_done batch back fault.StoreRefused more (inr other) = inr other

pub given_up_on : (P Q : Book → List Command → Type 0) → ((b : Book) (cs : List Command) → P b cs → Q b cs) → (b : Book) (batch : List Taken) (d : Done) → IsGivenUpFor P b batch d → IsGivenUpFor Q b batch d
given_up_on P Q on b batch (done.Kept rs) h = tt
given_up_on P Q on b batch (done.NotApplied (fault.NoMemory _)) h = tt
given_up_on P Q on b batch (done.NotApplied fault.StoreRefused) h = on b (commands_of batch) h
given_up_on P Q on b batch done.Unknown h = tt
given_up_on P Q on b batch done.Halted h = tt

-- Another book, where the batch was given up.
pub given_up_over : (P : Book → List Command → Type 0) (b b' : Book) (batch : List Taken) (d : Done) → ((f : ViewFault) → d ≡ done.NotApplied f → P b (commands_of batch) → P b' (commands_of batch)) → IsGivenUpFor P b batch d → IsGivenUpFor P b' batch d
given_up_over P b b' batch (done.Kept rs) on h = tt
given_up_over P b b' batch (done.NotApplied (fault.NoMemory _)) on h = tt
given_up_over P b b' batch (done.NotApplied fault.StoreRefused) on h = on fault.StoreRefused refl h
given_up_over P b b' batch done.Unknown on h = tt
given_up_over P b b' batch done.Halted on h = tt

---- Many

pub all_given_up_on : (P Q : Book → List Command → Type 0) → ((b : Book) (cs : List Command) → P b cs → Q b cs) → (b : Book) (bs : List (List Taken)) (ds : List Done) → AreGivenUp P b bs ds → AreGivenUp Q b bs ds
all_given_up_on P Q on b [] ds h = tt
all_given_up_on P Q on b (x ∷ bs) [] h = tt
all_given_up_on P Q on b (x ∷ bs) (d ∷ ds) h = (given_up_on P Q on b x d h.0, all_given_up_on P Q on (after rules b (if_kept x d)) bs ds h.1)

-- one batch more
pub given_up_more : (P : Book → List Command → Type 0) (b : Book) (bs : List (List Taken)) (ds : List Done) (batch : List Taken) (d : Done) → length ds ≡ length bs → AreGivenUp P b bs ds → IsGivenUpFor P (after rules b (kept_of bs ds)) batch d
    → AreGivenUp P b (bs ++ batch ∷ []) (ds ++ d ∷ [])
given_up_more P b [] [] batch d long h one = (one, tt)
given_up_more P b [] (y ∷ ds) batch d long h one = absurd (omega (arith, long))
given_up_more P b (x ∷ bs) [] batch d long h one = absurd (omega (arith, long))
given_up_more P b (x ∷ bs) (y ∷ ds) batch d long h one =
    let fewer : length ds ≡ length bs = omega (arith, long) in
    (h.0, given_up_more P (after rules b (if_kept x y)) bs ds batch d fewer h.1 (subst (λ k. IsGivenUpFor P k batch d) (after_cut rules b (if_kept x y) (kept_of bs ds)) one))

-- The book that the batches before left is the one that is read off, unless the connection is shut or the engine has halted.
pub given_up_then : {S : Type 0} (g : Ghosts S) (old mid new : Keeping S) (b : Book) (bs : List (List Taken)) (ds : List Done) (batch : List Taken) (d : Done) → length ds ≡ length bs
    → ((k : Book) (cs : List Command) → WasRefused g mid new k cs → WasRefused g old new k cs) → HasGoneOn g mid new → (mid.halted ≡ true → d ≡ done.Halted) → (mid.halted ≡ false → IsUp g mid → kept_book g mid ≡ after rules b (kept_of bs ds))
    → AreGivenUp (WasRefused g old mid) b bs ds → IsGivenUpFor (WasRefused g mid new) (kept_book g mid) batch d → AreGivenUp (WasRefused g old new) b (bs ++ batch ∷ []) (ds ++ d ∷ [])
given_up_then g old mid new b bs ds batch d long before on later same all one =
    let book = after rules b (kept_of bs ds) in
    let here = given_up_on (WasRefused g mid new) (WasRefused g old new) before (kept_book g mid) batch d one in
    given_up_more (WasRefused g old new) b bs ds batch d long (all_given_up_on (WasRefused g old mid) (WasRefused g old new) (λ k cs h. refused_still g old mid new k cs on h) b bs ds all)
    (given_up_over (WasRefused g old new) (kept_book g mid) book batch d (λ f is h. elim (cases_Bool mid.halted) [
      | inl halted ↦ absurd (let clash : done.Halted ≡ done.NotApplied f = sym (later halted) ∙ is in cc)
      | inr goes ↦ elim (cases_Bool (state_of g mid.stored).is_open) [
        | inl up ↦ subst (λ k. WasRefused g old new k (commands_of batch)) (same goes up) h
        | inr shut ↦ inr (inr (inl (shut_on (state_of g mid.stored).is_open (state_of g new.stored).is_open on.up shut)))
      ]
    ]) here)

---- Answers

-- E01
pub no_memory : {S : Type 0} (g : Ghosts S) (old new : Keeping S) (b : Book) (cs : List Command) (k : Code) → k ≡ code.NoMemory → IsGivenUp k × GivesUp g old new b cs k
no_memory g old new b cs k is = (inr is, λ e. absurd (let clash : code.NoMemory ≡ code.StoreRefused = sym is ∙ e in cc))

-- the cause of a code, by that of the fault
pub gives_up_by : {S : Type 0} (g : Ghosts S) (old new : Keeping S) (b : Book) (batch : List Taken) (f : ViewFault) → (IsFit g new → IsGivenUpFor (WasRefused g old new) b batch (done.NotApplied f)) → GivesUp g old new b (commands_of batch) (view_fault_code f)
gives_up_by g old new b batch (fault.NoMemory _) h is fit = absurd (cc)
gives_up_by g old new b batch fault.StoreRefused h is fit = h fit

pub given_up_by : (f : ViewFault) → IsGivenUp (view_fault_code f)
given_up_by (fault.NoMemory _) = inr refl
given_up_by fault.StoreRefused = inl refl

module _ {S : Type 0} (g : Ghosts S) (old new : Keeping S) where
  -- a batch of one that is kept has one answer
  kept_caused : (b : Book) (c : Command) (cs : List Command) (rs : List Receipt) (rest : List Answer) → length rs ≡ 1 → AreCaused (GivesUp g old new) (after_one rules b c) cs rest → AreCaused (GivesUp g old new) b (c ∷ cs) (map replied rs ++ rest)
  kept_caused b c cs [] rest one h = absurd (omega (arith, one))
  kept_caused b c cs (r ∷ []) rest one h = h
  kept_caused b c cs (r ∷ (s ∷ rs)) rest one h = absurd (omega (arith, one))

  -- what stands behind the batches stands behind the answers to their commands
  pub given_caused : (b : Book) (ts : List Taken) (ds : List Done) → length ds ≡ length ts → AreSingle ds → (IsFit g new → AreGivenUp (WasRefused g old new) b (map alone ts) ds) → AreCaused (GivesUp g old new) b (commands_of ts) (given ds)
  given_caused b [] [] long single h = tt
  given_caused b [] (d ∷ ds) long single h = absurd (omega (arith, long))
  given_caused b (t ∷ ts) [] long single h = tt
  given_caused b (t ∷ ts) (done.Kept rs ∷ ds) long single h =
      let fewer : length ds ≡ length ts = omega (arith, long) in
      kept_caused b t.command (commands_of ts) rs.items (given ds) single.0 (given_caused (after_one rules b t.command) ts ds fewer single.1 (λ fit. (h fit).1))
  given_caused b (t ∷ ts) (done.NotApplied f ∷ ds) long single h =
      let fewer : length ds ≡ length ts = omega (arith, long) in
      ((given_up_by f, gives_up_by g old new b (t ∷ []) f (λ fit. (h fit).0)), given_caused b ts ds fewer single.1 (λ fit. (h fit).1))
  given_caused b (t ∷ ts) (done.Unknown ∷ ds) long single h = tt
  given_caused b (t ∷ ts) (done.Halted ∷ ds) long single h = tt
