-- Lines that are written one after the other.
use Rattle.std.proofs.Common.{◌≡◌, ℕ, suc, List, [], ◌∷◌, ◌++◌, take, drop, length, get_or, ◌+◌, ◌<◌, Option, refl, sym, ap, ◌∙◌, subst, append_assoc, append-nil, take-append-drop, drop-cons}
use Rattle.std.proofs.lemmas.List.{take_more}
use Rattle.std.specs.Io.KnownBytes.{Appends}
use Rattle.std.proofs.KnownBytes.{Appends-trans}
use Rattle.flow_base.specs.declared.fault.Fault.{Fault}
use Rattle.flow_lines.proofs.Answering.{kept_appends, part_by}
use Rattle.flow_lines.specs.Answering.{WritesPart}
use Rattle.flow_lines.specs.Driving.{WritesBeginning}
use Rattle.flow_cli.specs.Lines.{lines_written}

pub lines_joined : {A : Type 0} (text : A → List ℕ) (xs ys : List A) → lines_written text (xs ++ ys) ≡ lines_written text xs ++ lines_written text ys
lines_joined text [] ys = refl
lines_joined text (x ∷ xs) ys =
    ap (λ l. (text x ++ 10 ∷ []) ++ l) (lines_joined text xs ys) ∙ sym (append_assoc (text x ++ 10 ∷ []) (lines_written text xs) (lines_written text ys))

one_line : {A : Type 0} (text : A → List ℕ) (x : A) → lines_written text (x ∷ []) ≡ text x ++ 10 ∷ []
one_line text x = append-nil (text x ++ 10 ∷ [])

-- one more was written
pub one_more_line : {A : Type 0} (text : A → List ℕ) (old new new1 : Option (List ℕ)) (all : List A) (i : ℕ) (x : A) → i < length all → x ≡ get_or all i x → Appends old new (lines_written text (take i all)) → Appends new new1 (text x ++ 10 ∷ []) → Appends old new1 (lines_written text (take (i + 1) all))
one_more_line text old new new1 all i x lt here adds more =
    let now : take (i + 1) all ≡ take i all ++ x ∷ [] = take_more all i x lt ∙ ap (λ y. take i all ++ y ∷ []) (sym here) in
    subst (Appends old new1) (sym (ap (lines_written text) now ∙ lines_joined text (take i all) (x ∷ []) ∙ ap (λ l. lines_written text (take i all) ++ l) (one_line text x)))
    (Appends-trans old new new1 _ _ adds more)

-- a part of one more was written
part_of_lines : {A : Type 0} (text : A → List ℕ) (e : Fault) (old new new1 : Option (List ℕ)) (all done later : List A) (x : A) → all ≡ done ++ x ∷ later → Appends old new (lines_written text done) → WritesPart e new new1 (text x ++ 10 ∷ []) → WritesBeginning old new1 (lines_written text all)
part_of_lines text e old new new1 all done later x is adds w =
    part_by e new new1 (text x ++ 10 ∷ []) (λ f. WritesBeginning old new1 (lines_written text all)) w
    (λ kept. record {
      front = lines_written text done;
      back = lines_written text (x ∷ later);
      bytes_are = ap (lines_written text) is ∙ lines_joined text done (x ∷ later);
      written_are = subst (Appends old new1) (append-nil (lines_written text done)) (Appends-trans old new new1 _ _ adds (kept_appends new new1 kept));
    })
    (λ begun. record {
      front = lines_written text done ++ begun.front;
      back = begun.back ++ lines_written text later;
      bytes_are =
          ap (lines_written text) is ∙ lines_joined text done (x ∷ later)
          ∙ ap (λ l. lines_written text done ++ (l ++ lines_written text later)) begun.bytes_are
          ∙ ap (λ l. lines_written text done ++ l) (append_assoc begun.front begun.back (lines_written text later))
          ∙ sym (append_assoc (lines_written text done) begun.front (begun.back ++ lines_written text later));
      written_are = Appends-trans old new new1 _ _ adds begun.written_are;
    })

pub part_of_line : {A : Type 0} (text : A → List ℕ) (e : Fault) (old new new1 : Option (List ℕ)) (all : List A) (i : ℕ) (x : A) → i < length all → x ≡ get_or all i x → Appends old new (lines_written text (take i all)) → WritesPart e new new1 (text x ++ 10 ∷ []) → WritesBeginning old new1 (lines_written text all)
part_of_line text e old new new1 all i x lt here adds w =
    part_of_lines text e old new new1 all (take i all) (drop (suc i) all) x
    (sym (take-append-drop i all) ∙ ap (λ l. take i all ++ l) (drop-cons all i x lt ∙ ap (λ y. y ∷ drop (suc i) all) (sym here))) adds w
