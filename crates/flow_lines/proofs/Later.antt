-- What is said of lines with a cause for what is given up is said with each cause that follows from it.
use Rattle.std.proofs.Common.{◌≡◌, inl, inr, ℕ, List, [], ◌∷◌, ◌++◌, Option, Some, None, IfSome}
use Rattle.flow_base.specs.declared.code.Code.{Code}
use Rattle.flow_base.specs.declared.command.Command.{Command}
use Rattle.flow_base.specs.declared.fault.Fault.{Fault}
use Rattle.flow_base.specs.declared.fault.Fault.TheVariants as fault
use Rattle.flow_model.specs.Apply.{Rules}
use Rattle.flow_model.specs.Book.{Book}
use Rattle.flow_model.specs.declared.answer.Stop.{Stop}
use Rattle.flow_model.specs.declared.answer.Stop.TheVariants as stop
use Rattle.flow_lines.specs.Answering.{Part, Lone, Applied, GivenUp, AreParts, Answered, IsPart, OfBatch, SomeAnswered, StatusWithin, StopsAmong, StopsAtPart, StopsNext, StopsWithin, book_behind, book_by, commands_in}
use Rattle.flow_lines.specs.Driving.{lines_of}
use Rattle.flow_lines.specs.Stopping.{CausedFault, ComeNext, StoppedBy}
use Rattle.flow_lines.proofs.Stopping.{fault_by}

-- this follows from a cause
abbrev pub Gives : {X : Type 0} → (Book → List Command → X → Type 0) → (Book → List Command → X → Type 0) → Type 0
Gives {X} one two = (b : Book) (cs : List Command) (x : X) → one b cs x → two b cs x

pub batch_gives : {X : Type 0} (most : ℕ) (one two : Book → List Command → X → Type 0) → Gives one two → Gives (OfBatch most one) (OfBatch most two)
batch_gives most one two on b cs k h = (h.0, on b cs k h.1)

module _ (one two : Book → List Command → Code → Type 0) (on : Gives one two) where
  pub within_too : (n : ℕ) → StatusWithin one n → StatusWithin two n
  within_too n (inl low) = inl low
  within_too n (inr high) = inr (high.0, record { book = high.1.book; commands = high.1.commands; code = high.1.code; is = on high.1.book high.1.commands high.1.code high.1.is })

  part_too : (b : Book) (p : Part) → IsPart one b p → IsPart two b p
  part_too b (Lone l) h = h
  part_too b (Applied ls) h = h
  part_too b (GivenUp ls k) h = (h.0, on b _ k h.1)

  module _ (u : Rules) (cut : List (List ℕ) → List (List ℕ) → Type 0) where
    pub parts_too : (b : Book) (ps : List Part) (later : List (List ℕ)) → AreParts u one cut b ps later → AreParts u two cut b ps later
    parts_too b [] later h = tt
    parts_too b (p ∷ ps) later h = (part_too b p h.0, (h.1.0, parts_too (book_by u b p) ps later h.1.1))

    pub answered_too : (counted : Book → List Part → Type 0) (b b1 : Book) (known left old new : Option (List ℕ)) (n : ℕ) → IfSome known (λ bytes. Answered u one counted cut b b1 bytes left old new n) → IfSome known (λ bytes. Answered u two counted cut b b1 bytes left old new n)
    answered_too counted b b1 None left old new n h = tt
    answered_too counted b b1 (Some bytes) left old new n h = record {
      parts = h.parts;
      rest = h.rest;
      left_is = h.left_is;
      lines_are = h.lines_are;
      parts_are = parts_too b h.parts (lines_of h.rest) h.parts_are;
      counted_is = h.counted_is;
      book_is = h.book_is;
      written_are = h.written_are;
      status_is = h.status_is;
    }

    pub some_too : (counted : Book → List Part → Type 0) (b b1 : Book) (least n : ℕ) (old new : Option (List ℕ)) → SomeAnswered u one counted cut b b1 least old new n → SomeAnswered u two counted cut b b1 least old new n
    some_too counted b b1 least n old new h = record { parts = h.parts; many = h.many; parts_are = parts_too b h.parts [] h.parts_are; counted_is = h.counted_is; book_is = h.book_is; written_are = h.written_are; status_is = h.status_is }

    module _ (stops since : Book → List Command → Stop → Type 0) (gives : Gives stops since) where
      at_too : (f : Fault) (here : List Part) (b b1 : Book) (lines : List (List ℕ)) (old new : Option (List ℕ)) → StopsAtPart u one stops f here b b1 lines old new → StopsAtPart u two since f here b b1 lines old new
      at_too (fault.NoMemory _) here b b1 lines old new h = (record { part = h.0.part; lines_are = h.0.lines_are; part_is = part_too b h.0.part h.0.part_is; book_is = h.0.book_is; told = h.0.told }, h.1)
      at_too (fault.Mismatch run place name) here b b1 lines old new h = h
      at_too fault.NoRun here b b1 lines old new h = h
      at_too fault.StoreRefused here b b1 lines old new h = h
      at_too fault.NotOurs here b b1 lines old new h = h
      at_too fault.BadVersion here b b1 lines old new h = h
      at_too (fault.Damaged d) here b b1 lines old new h = h
      at_too fault.Unknown here b b1 lines old new h = (h.0, (gives b (commands_in lines) stop.Unknown h.1.0, h.1.1))
      at_too fault.Halted here b b1 lines old new h = (h.0, (gives b (commands_in lines) stop.Halted h.1.0, h.1.1))
      at_too fault.NoFile here b b1 lines old new h = h
      at_too fault.InputFailed here b b1 lines old new h = h
      at_too fault.OutputFailed here b b1 lines old new h = (record { part = h.0.part; lines_are = h.0.lines_are; part_is = part_too b h.0.part h.0.part_is; book_is = h.0.book_is; told = h.0.told }, h.1)
      at_too fault.BadSettings here b b1 lines old new h = h
      at_too fault.BadUsage here b b1 lines old new h = h

      ends_too : (e : Fault) (here : List Part) (b b1 : Book) (later : List (List ℕ)) (old new : Option (List ℕ)) → StopsNext u one stops cut e here b b1 later old new → StopsNext u two since cut e here b b1 later old new
      ends_too e here b b1 later old new (inl h) = inl h
      ends_too e here b b1 later old new (inr h) =
          inr (record { next = h.next; rest = h.rest; lines_are = h.lines_are; cut_is = h.cut_is; stops_at = at_too e here b b1 h.next old new h.stops_at })

      stops_within_too : (counted : Book → List Part → Type 0) (b b1 : Book) (e : Fault) (whole : List (List ℕ)) (old new : Option (List ℕ)) → StopsWithin u one counted stops cut b b1 e whole old new → StopsWithin u two counted since cut b b1 e whole old new
      stops_within_too counted b b1 e whole old new h = record {
        parts = h.parts;
        later = h.later;
        out = h.out;
        lines_are = h.lines_are;
        parts_are = parts_too b h.parts h.later h.parts_are;
        here = h.here;
        counted_is = h.counted_is;
        written_are = h.written_are;
        ends = ends_too e h.here (book_behind u b h.parts) b1 h.later h.out new h.ends;
      }

      pub stops_too : (counted : Book → List Part → Type 0) (b b1 : Book) (e : Fault) (known old new : Option (List ℕ)) → IfSome known (λ bytes. StopsWithin u one counted stops cut b b1 e (lines_of bytes) old new) → IfSome known (λ bytes. StopsWithin u two counted since cut b b1 e (lines_of bytes) old new)
      stops_too counted b b1 e None old new h = tt
      stops_too counted b b1 e (Some bytes) old new h = stops_within_too counted b b1 e (lines_of bytes) old new h

      pub among_too : (counted : Book → List Part → Type 0) (b b1 : Book) (e : Fault) (old new : Option (List ℕ)) → StopsAmong u one counted stops cut b b1 e old new → StopsAmong u two counted since cut b b1 e old new
      among_too counted b b1 e old new h = record { whole = h.whole; stops_are = stops_within_too counted b b1 e h.whole old new h.stops_are }

      next_too : (b book : Book) (cs : List Command) (known : Option (List ℕ)) → IfSome known (λ bytes. ComeNext u one cut b bytes book cs) → IfSome known (λ bytes. ComeNext u two cut b bytes book cs)
      next_too b book cs None h = tt
      next_too b book cs (Some bytes) h =
          record { parts = h.parts; next = h.next; later = h.later; lines_are = h.lines_are; parts_are = parts_too b h.parts (h.next ++ h.later) h.parts_are; book_is = h.book_is; commands_are = h.commands_are }

      pub cause_too : (e : Fault) (sure : Type 0) (b : Book) (known : Option (List ℕ)) → CausedFault e (StoppedBy u one stops cut sure b known) → CausedFault e (StoppedBy u two since cut sure b known)
      cause_too e sure b known h =
          fault_by e (StoppedBy u one stops cut sure b known) (StoppedBy u two since cut sure b known) (λ s x. (x.0, (x.1.0, (gives x.0 x.1.0 s x.1.1.0, λ is. next_too b x.0 x.1.0 known (x.1.1.1 is))))) h
