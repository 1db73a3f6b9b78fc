-- What the trait `Disk` says of each call, as one word each, for a disk whose calls say more.
use Rattle.std.specs.Prelude.{◌≡◌, ◌⊎◌, ℕ, ◌+◌, ◌^◌, ◌<◌, ◌≤◌, IsTrue, List, length, take, drop, Result, is_ok, IsErr, IfOk, OnOk}
use Rattle.std.specs.declared.io.Error.{Error}
use Rattle.sqlite_disk.specs.declared.Disk.{Ghosts}
use Rattle.sqlite_disk.specs.Disk.{Holds, Torn, Mixed, Cut, Follows, Only, CountsFault, CountsFaultIf, StaysFrozen}
use Rattle.sqlite_disk.specs.Digest.{digest, Collide}
use Rattle.sqlite_disk.specs.Tally.{CountsCatch, CountsRefusal}

module _ {D : Type 0} (g : Ghosts D) (old new : D) where
  -- where it is frozen it refuses a call and stays as it is
  abbrev pub StaysStill : {T : Type 0} → Result T Error → Type 0
  StaysStill result = IsTrue (g.is_frozen old) → IsErr result × StaysFrozen g.seen g.may_leave g.is_clean g.is_frozen old new

  -- its length is asked
  pub record Measures (result : Result ℕ Error) : Type 0 where
    pub len : IfOk result (λ n. IsTrue (g.is_clean new) → n ≡ length (g.seen old))
    pub faults : CountsFault result (g.faults old) (g.faults new)
    pub clean : IsTrue (g.is_clean new) → IsTrue (g.is_clean old)
    pub frozen : StaysStill result
    pub seen : g.seen new ≡ g.seen old
    pub tally : g.tally_of new ≡ g.tally_of old
    pub key : g.key_of new ≡ g.key_of old
    pub rot : g.is_rotten new ≡ g.is_rotten old
    pub usable : IsTrue (g.is_usable new)
    pub crash : (c : List ℕ) → g.may_leave new c → g.may_leave old c

  -- bytes are read from a place on
  pub record Reads (at : ℕ) (before after : List ℕ) (result : Result Unit Error) : Type 0 where
    pub read : OnOk result (IsTrue (g.is_clean new) → 0 < length before → Holds (g.seen old) at after)
    pub faults : CountsFaultIf (IsTrue (g.is_clean old) → at + length before ≤ length (g.seen old)) result (g.faults old) (g.faults new)
    pub clean : IsTrue (g.is_clean new) → IsTrue (g.is_clean old)
    pub frozen : StaysStill result
    pub seen : g.seen new ≡ g.seen old
    pub tally : g.tally_of new ≡ g.tally_of old
    pub key : g.key_of new ≡ g.key_of old
    pub rot : g.is_rotten new ≡ g.is_rotten old
    pub usable : IsTrue (g.is_usable new)
    pub crash : (c : List ℕ) → g.may_leave new c → g.may_leave old c

  -- the same, tested against a digest
  pub record Tests (k want at : ℕ) (before after : List ℕ) (result : Result Unit Error) : Type 0 where
    pub read : OnOk result (IsTrue (g.is_clean new) → Holds (g.seen old) at after)
    pub tested : OnOk result (digest k after ≡ want)
    pub detects : IsTrue (g.is_clean old) → at + length before ≤ length (g.seen old) → IsTrue (g.is_clean new) ⊎ Collide k after (take (length before) (drop at (g.seen old)))
    pub faults : CountsFaultIf (IsTrue (g.is_clean old) × (at + length before ≤ length (g.seen old))) result (g.faults old) (g.faults new)
    pub clean : IsTrue (g.is_clean new) → IsTrue (g.is_clean old)
    pub fair : g.is_fair new k ≡ g.is_fair old k
    pub frozen : StaysStill result
    pub seen : g.seen new ≡ g.seen old
    pub tally : CountsCatch result (g.tally_of old) (g.tally_of new)
    pub key : g.key_of new ≡ g.key_of old
    pub rot : g.is_rotten new ≡ g.is_rotten old
    pub rotten : IsTrue (g.is_rotten old at (length before)) → IsErr result
    pub usable : IsTrue (g.is_usable new)
    pub crash : (c : List ℕ) → g.may_leave new c → g.may_leave old c

  -- bytes are written from a place on
  pub record Writes (at : ℕ) (bytes : List ℕ) (result : Result Unit Error) : Type 0 where
    pub written : OnOk result (0 < length bytes → Holds (g.seen new) at bytes)
    pub faults : CountsFault result (g.faults old) (g.faults new)
    pub clean : IsTrue (g.is_clean new) → IsTrue (g.is_clean old)
    pub calm : g.is_clean new ≡ g.is_clean old
    pub fair : g.is_fair new ≡ g.is_fair old
    pub frozen : StaysStill result
    pub others : Torn at (length bytes) (g.seen old) (g.seen new)
    pub tally : CountsRefusal result (g.tally_of old) (g.tally_of new)
    pub key : g.key_of new ≡ g.key_of old
    pub usable : IsTrue (g.is_usable new)
    pub mixing : g.is_mixing new ≡ g.is_mixing old
    pub mixed : IsTrue (g.is_mixing old) → at + length bytes < 2 ^ 64 → Follows (Mixed at bytes) (g.may_leave old) (g.may_leave new)
    pub crash : Follows (Torn at (length bytes)) (g.may_leave old) (g.may_leave new)

  -- it is given a length
  pub record Resizes (n : ℕ) (result : Result Unit Error) : Type 0 where
    pub len : OnOk result (length (g.seen new) ≡ n)
    pub faults : CountsFault result (g.faults old) (g.faults new)
    pub clean : IsTrue (g.is_clean new) → IsTrue (g.is_clean old)
    pub calm : g.is_clean new ≡ g.is_clean old
    pub fair : g.is_fair new ≡ g.is_fair old
    pub frozen : StaysStill result
    pub others : Cut n (g.seen old) (g.seen new)
    pub tally : CountsRefusal result (g.tally_of old) (g.tally_of new)
    pub key : g.key_of new ≡ g.key_of old
    pub usable : IsTrue (g.is_usable new)
    pub crash : Follows (Cut n) (g.may_leave old) (g.may_leave new)

  -- what it holds is synced
  pub record Syncs (result : Result Unit Error) : Type 0 where
    pub durable : OnOk result (Only (g.seen old) (g.may_leave new))
    pub faults : CountsFault result (g.faults old) (g.faults new)
    pub clean : IsTrue (g.is_clean new) → IsTrue (g.is_clean old)
    pub calm : g.is_clean new ≡ g.is_clean old
    pub fair : g.is_fair new ≡ g.is_fair old
    pub frozen : StaysStill result
    pub seen : g.seen new ≡ g.seen old
    pub tally : CountsRefusal result (g.tally_of old) (g.tally_of new)
    pub key : g.key_of new ≡ g.key_of old
    pub rot : g.is_rotten new ≡ g.is_rotten old
    pub usable : g.is_usable new ≡ is_ok result
    pub crash : (c : List ℕ) → g.may_leave new c → g.may_leave old c
