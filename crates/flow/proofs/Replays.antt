-- What is told of histories that are replayed.
use Rattle.std.proofs.Common.{◌≡◌, ◌+◌, ◌<◌, ℕ, max, suc, List, [], ◌∷◌, length, drop, get_or, Ok, Err, inl, inr, refl, sym, ap, ◌∙◌, subst, arith, drop-cons, add-one, String, string_bytes}
use Rattle.std.specs.Prelude.{Result}
use Rattle.std.specs.declared.io.Error.{Error}
use Rattle.flow_base.specs.Syntax.{Program}
use Rattle.flow_base.specs.declared.command.TextFault.{TextFault}
use Rattle.flow_cli.specs.declared.reason.Early.{Early}
use Rattle.flow_base.specs.declared.fault.Fault.TheVariants as fault
use Rattle.flow_base.specs.declared.memory.NoMemory.{NoMemory}
use Rattle.flow_cli.specs.declared.replaying.Replayed.{Replayed}
use Rattle.flow_lines.specs.declared.output.Output.{Ghosts}
use Rattle.flow_lines.proofs.Endings.{same_kept}
use Rattle.flow.specs.Replays.{joined, Replays, ReplaysFile, ReplaysFiles}

-- memory ran out before anything was written
pub ran_out : {O : Type 0} (o : Ghosts O) (begins : List ℕ) (is : Replayed → Type 0) (r : Replayed) (now : O) (refused : NoMemory) → is r → Replays o begins is now now (Err (fault.NoMemory refused))
ran_out o begins is r now refused x = record { replayed = r; comes = x; tells = record { written = tt; stopped = same_kept (o.contents now); output = refl } }

-- ---- files, one after the other

pub joined_zero : (r : Result ℕ Early) → joined 0 r ≡ r
joined_zero (Ok k) = ap Ok (omega arith)
joined_zero (Err e) = refl

pub joined_twice : (n m : ℕ) (r : Result ℕ Early) → joined n (joined m r) ≡ joined (max n m) r
joined_twice n m (Ok k) = ap Ok (omega arith)
joined_twice n m (Err e) = refl

-- what is left of files from one on
pub left_from : {A : Type 0} (files : List A) (i : ℕ) (x : A) → i < length files → x ≡ get_or files i x → drop i files ≡ x ∷ drop (i + 1) files
left_from files i x lt here = rw add-one (drop-cons files i x lt ∙ ap (λ y. y ∷ drop (suc i) files) (sym here))

-- Whatever comes of the files that are left, this comes of all of them.
abbrev pub Decides : {A O : Type 0} → (List ℕ → Result (String A) Error → Type 0) → Ghosts O → Result Program TextFault → List (String A) → List (String A) → O → O → ℕ → Type 0
Decides {A} {O} reads o m all left old now status =
    (new : O) (r : Result ℕ Early) → ReplaysFiles reads o m left now new r → ReplaysFiles reads o m all old new (joined status r)

pub decides_first : {A O : Type 0} (reads : List ℕ → Result (String A) Error → Type 0) (o : Ghosts O) (m : Result Program TextFault) (all : List (String A)) (old : O) → Decides reads o m all all old old 0
decides_first reads o m all old = λ new r h. subst (ReplaysFiles reads o m all old new) (sym (joined_zero r)) h

pub decides_more : {A O : Type 0} (reads : List ℕ → Result (String A) Error → Type 0) (o : Ghosts O) (m : Result Program TextFault) (all : List (String A)) (i : ℕ) (x : String A) (old now mid : O) (status n : ℕ) → i < length all → x ≡ get_or all i x
    → Decides reads o m all (drop i all) old now status → ReplaysFile reads o m (string_bytes x) now mid (Ok n) → Decides reads o m all (drop (i + 1) all) old mid (max status n)
decides_more reads o m all i x old now mid status n lt here before file = λ new r h.
    subst (ReplaysFiles reads o m all old new) (joined_twice status n r)
    (before new (joined n r) (subst (λ l. ReplaysFiles reads o m l now new (joined n r)) (sym (left_from all i x lt here)) (inl (mid, (n, (r, (file, (h, refl))))))))

pub decides_early : {A O : Type 0} (reads : List ℕ → Result (String A) Error → Type 0) (o : Ghosts O) (m : Result Program TextFault) (all : List (String A)) (i : ℕ) (x : String A) (old now new : O) (status : ℕ) (e : Early) → i < length all → x ≡ get_or all i x
    → Decides reads o m all (drop i all) old now status → ReplaysFile reads o m (string_bytes x) now new (Err e) → ReplaysFiles reads o m all old new (Err e)
decides_early reads o m all i x old now new status e lt here before file =
    before new (Err e) (subst (λ l. ReplaysFiles reads o m l now new (Err e)) (sym (left_from all i x lt here)) (inr (e, (file, refl))))

-- where none is left, the status is what it has come to
pub decides_last : {A O : Type 0} (reads : List ℕ → Result (String A) Error → Type 0) (o : Ghosts O) (m : Result Program TextFault) (all : List (String A)) (i : ℕ) (old now : O) (status : ℕ) → drop i all ≡ []
    → Decides reads o m all (drop i all) old now status → ReplaysFiles reads o m all old now (Ok status)
decides_last reads o m all i old now status none before =
    let at_end : max status 0 ≡ status = omega arith in
    subst (λ n. ReplaysFiles reads o m all old now (Ok n)) at_end (before now (Ok 0) (subst (λ l. ReplaysFiles reads o m l now now (Ok 0)) (sym none) (refl, refl)))
