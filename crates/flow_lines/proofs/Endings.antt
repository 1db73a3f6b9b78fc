-- What is written at the end of a program.
use Rattle.std.proofs.Common.{ℕ, List, [], ◌++◌, Option, Some, None, refl, sym, ap, ◌∙◌, append_assoc}
use Rattle.std.specs.Io.KnownBytes.{Appends, Keeps}
use Rattle.std.proofs.KnownBytes.{Appends-nil, Appends-trans}
use Rattle.flow_lines.specs.Driving.{WritesBeginning}

pub same_kept : (out : Option (List ℕ)) → Keeps out out
same_kept None = tt
same_kept (Some bytes) = refl

-- a beginning of the first text is one of both
pub first_begun : (old new : Option (List ℕ)) (first then : List ℕ) → WritesBeginning old new first → WritesBeginning old new (first ++ then)
first_begun old new first then w =
    record { front = w.front; back = w.back ++ then; bytes_are = ap (λ l. l ++ then) w.bytes_are ∙ append_assoc w.front w.back then; written_are = w.written_are }

-- and so is the first one with a beginning of the other
pub both_begun : (old mid new : Option (List ℕ)) (first then : List ℕ) → Appends old mid first → WritesBeginning mid new then → WritesBeginning old new (first ++ then)
both_begun old mid new first then all w =
    record {
      front = first ++ w.front;
      back = w.back;
      bytes_are = ap (λ l. first ++ l) w.bytes_are ∙ sym (append_assoc first w.front w.back);
      written_are = Appends-trans old mid new _ _ all w.written_are;
    }

-- both texts
pub both_written : (old mid new : Option (List ℕ)) (first then : List ℕ) → Appends old mid first → Appends mid new then → Appends old new (first ++ then)
both_written old mid new first then all more = Appends-trans old mid new _ _ all more

-- nothing is a beginning
pub none_written : (out : Option (List ℕ)) (bytes : List ℕ) → WritesBeginning out out bytes
none_written out bytes = record { front = []; back = bytes; bytes_are = refl; written_are = Appends-nil out }
