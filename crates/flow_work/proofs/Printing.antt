-- Bytes that are written behind those that were kept.
use Rattle.std.proofs.Common.{◌≡◌, ◌++◌, ℕ, List, Option, Some, None, subst}
use Rattle.std.specs.Io.KnownBytes.{Appends, Keeps}
use Rattle.std.proofs.KnownBytes.{Keeps-refl, Keeps-trans}
use Rattle.flow_lines.specs.Driving.{WritesBeginning}

pub kept_self : (a : Option (List ℕ)) → Keeps a a
kept_self a = Keeps-refl a

pub kept_more : (a b c : Option (List ℕ)) → Keeps a b → Keeps b c → Keeps a c
kept_more a b c p q = Keeps-trans a b c p q

pub written_later : (a b c : Option (List ℕ)) (bytes : List ℕ) → Keeps a b → Appends b c bytes → Appends a c bytes
written_later a b c bytes p q = go a b c p q
  where
    go : (a b c : Option (List ℕ)) → Keeps a b → Appends b c bytes → Appends a c bytes
    go None b c p q = tt
    go (Some x) None c p q = absurd p
    go (Some x) (Some y) None p q = absurd q
    go (Some x) (Some y) (Some z) p q = subst (λ (w : List ℕ). z ≡ w ++ bytes) p q

pub begun_later : (a b c : Option (List ℕ)) (bytes : List ℕ) → Keeps a b → WritesBeginning b c bytes → WritesBeginning a c bytes
begun_later a b c bytes p w = record { front = w.front; back = w.back; bytes_are = w.bytes_are; written_are = written_later a b c w.front p w.written_are }
