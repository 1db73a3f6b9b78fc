-- Lines answered one after the other.
use Rattle.std.proofs.Common.{◌≡◌, ℕ, List, [], ◌∷◌, ◌++◌, max, Option, Some, None, IfSome, refl, sym, ap, ◌∙◌, subst, arith, append_assoc, append-nil, inl, inr, Result, Ok, Err, IfErr}
use Rattle.std.specs.Io.KnownBytes.{Appends, Keeps}
use Rattle.std.specs.Io.BufRead.{drop_through}
use Rattle.std.proofs.KnownBytes.{Appends-nil, Appends-trans}
use Rattle.flow_base.specs.declared.code.Code.{Code}
use Rattle.flow_base.specs.declared.command.Command.{Command}
use Rattle.flow_model.specs.Apply.{Rules}
use Rattle.flow_model.specs.Book.{Book}
use Rattle.flow_lines.specs.Driving.{lines_of, written, answer_status, final_status, WritesBeginning}
use Rattle.flow_lines.specs.Answering.{Part, Lone, Applied, GivenUp, IsCut, AreParts, FirstLine, Answered, AllAnswered, IsPart, StatusWithin, StopsAtPart, StopsAtSome, StopsBetween, StopsNext, StopsWithin, TellsPart, WritesFront, WritesPart, WritesSome, answers_by, answers_in, book_behind, book_by, commands_in, lines_by, lines_in}
use Rattle.flow_lines.specs.Commands.{line_command}
use Rattle.flow_lines.specs.Faults.{fault_of_stop}
use Rattle.flow_lines.specs.Replies.{line_text}
use Rattle.flow_model.specs.declared.answer.Stop.{Stop}
use Rattle.flow_model.specs.declared.answer.Stop.TheVariants as stop
use Rattle.flow_base.specs.declared.fault.Fault.{Fault}
use Rattle.flow_base.specs.declared.fault.Fault.TheVariants as fault
use Rattle.flow_lines.specs.declared.reply.Line.{Line}
use Rattle.flow_lines.specs.declared.reply.Line.TheVariants as a_line

pub written-append : (xs ys : List Line) → written (xs ++ ys) ≡ written xs ++ written ys
written-append [] ys = refl
written-append (x ∷ xs) ys =
    ap (λ l. (line_text x ++ 10 ∷ []) ++ l) (written-append xs ys) ∙ sym (append_assoc (line_text x ++ 10 ∷ []) (written xs) (written ys))

pub status-append : (xs ys : List Line) → final_status (xs ++ ys) ≡ max (final_status xs) (final_status ys)
status-append [] ys = omega arith
status-append (x ∷ xs) ys = let e = status-append xs ys in omega arith

-- of an error two things are known
pub both_errs : {X : Type 0} (r : Result X Fault) (P Q R : Fault → Type 0) → ((e : Fault) → P e → Q e → R e) → IfErr r P → IfErr r Q → IfErr r R
both_errs (Ok x) P Q R h p q = tt
both_errs (Err e) P Q R h p q = h e p q

pub kept_appends : (old new : Option (List ℕ)) → Keeps old new → Appends old new []
kept_appends None new kept = tt
kept_appends (Some x) None kept = absurd kept
kept_appends (Some x) (Some y) kept = kept ∙ sym (append-nil x)

pub none_appended : (old new : Option (List ℕ)) → Appends old new [] → Keeps old new
none_appended None new adds = tt
none_appended (Some x) None adds = absurd adds
none_appended (Some x) (Some y) adds = adds ∙ append-nil x

pub keeps_self : (out : Option (List ℕ)) → Keeps out out
keeps_self out = none_appended out out (Appends-nil out)

-- whatever the bytes are
pub each : (known : Option (List ℕ)) (P : List ℕ → Type 0) → ((bytes : List ℕ) → P bytes) → IfSome known P
each None P holds = tt
each (Some bytes) P holds = holds bytes

-- the first of two statuses is within, and the other, so the greater one is
pub both_within : (given_up : Book → List Command → Code → Type 0) (n m k : ℕ) → StatusWithin given_up n → StatusWithin given_up m → k ≡ max n m → StatusWithin given_up k
both_within given_up n m k (inl low) (inl less) is = inl (omega arith)
both_within given_up n m k (inl low) (inr high) is = let e = high.0 in inr (omega arith, high.1)
both_within given_up n m k (inr high) (inl low) is = let e = high.0 in inr (omega arith, high.1)
both_within given_up n m k (inr high) (inr up) is = let e = high.0 in let d = up.0 in inr (omega arith, high.1)

pub lines-append : (ps qs : List Part) → lines_in (ps ++ qs) ≡ lines_in ps ++ lines_in qs
lines-append [] qs = refl
lines-append (p ∷ ps) qs = ap (λ l. lines_by p ++ l) (lines-append ps qs) ∙ sym (append_assoc (lines_by p) (lines_in ps) (lines_in qs))

-- the lines of two lists of parts, and those behind them
pub lines_on : (whole mid later : List (List ℕ)) (ps qs : List Part) → whole ≡ lines_in ps ++ mid → mid ≡ lines_in qs ++ later → whole ≡ lines_in (ps ++ qs) ++ later
lines_on whole mid later ps qs f g =
    f ∙ ap (λ l. lines_in ps ++ l) g ∙ sym (append_assoc (lines_in ps) (lines_in qs) later) ∙ ap (λ l. l ++ later) (sym (lines-append ps qs))

-- lines that are cut so are a part that is
pub as_cut : (cut : List (List ℕ) → List (List ℕ) → Type 0) (p : Part) (lines later : List (List ℕ)) → lines ≡ lines_by p → cut lines later → IsCut cut p later
as_cut cut (Lone l) lines later is h = tt
as_cut cut (Applied ls) lines later is h = subst (λ l. cut l later) is h
as_cut cut (GivenUp ls k) lines later is h = subst (λ l. cut l later) is h

-- ---- what was written where writing ended early

-- of one text: none of it where memory ran out, and else a beginning
pub part_by : (f : Fault) (old new : Option (List ℕ)) (bytes : List ℕ) (G : Fault → Type 0) → WritesPart f old new bytes → (Keeps old new → G (fault.NoMemory _)) → (WritesBeginning old new bytes → G fault.OutputFailed) → G f
part_by (fault.NoMemory _) old new bytes G w none some = none w
part_by (fault.Mismatch run place name) old new bytes G w none some = absurd w
part_by fault.NoRun old new bytes G w none some = absurd w
part_by fault.StoreRefused old new bytes G w none some = absurd w
part_by fault.NotOurs old new bytes G w none some = absurd w
part_by fault.BadVersion old new bytes G w none some = absurd w
part_by (fault.Damaged d) old new bytes G w none some = absurd w
part_by fault.Unknown old new bytes G w none some = absurd w
part_by fault.Halted old new bytes G w none some = absurd w
part_by fault.NoFile old new bytes G w none some = absurd w
part_by fault.InputFailed old new bytes G w none some = absurd w
part_by fault.OutputFailed old new bytes G w none some = some w
part_by fault.BadSettings old new bytes G w none some = absurd w
part_by fault.BadUsage old new bytes G w none some = absurd w

-- of answers: the first of them, and else a beginning
pub some_by : (f : Fault) (old new : Option (List ℕ)) (answers : List Line) (G : Fault → Type 0) → WritesSome f old new answers → (WritesFront old new answers → G (fault.NoMemory _)) → (WritesBeginning old new (written answers) → G fault.OutputFailed) → G f
some_by (fault.NoMemory _) old new answers G w front some = front w
some_by (fault.Mismatch run place name) old new answers G w front some = absurd w
some_by fault.NoRun old new answers G w front some = absurd w
some_by fault.StoreRefused old new answers G w front some = absurd w
some_by fault.NotOurs old new answers G w front some = absurd w
some_by fault.BadVersion old new answers G w front some = absurd w
some_by (fault.Damaged d) old new answers G w front some = absurd w
some_by fault.Unknown old new answers G w front some = absurd w
some_by fault.Halted old new answers G w front some = absurd w
some_by fault.NoFile old new answers G w front some = absurd w
some_by fault.InputFailed old new answers G w front some = absurd w
some_by fault.OutputFailed old new answers G w front some = some w
some_by fault.BadSettings old new answers G w front some = absurd w
some_by fault.BadUsage old new answers G w front some = absurd w

module _ (u : Rules) where
  answers-append : (b : Book) (ps qs : List Part) → answers_in u b (ps ++ qs) ≡ answers_in u b ps ++ answers_in u (book_behind u b ps) qs
  answers-append b [] qs = refl
  answers-append b (p ∷ ps) qs =
      ap (λ l. answers_by u b p ++ l) (answers-append (book_by u b p) ps qs) ∙ sym (append_assoc (answers_by u b p) (answers_in u (book_by u b p) ps) (answers_in u (book_behind u (book_by u b p) ps) qs))

  behind-append : (b : Book) (ps qs : List Part) → book_behind u b (ps ++ qs) ≡ book_behind u (book_behind u b ps) qs
  behind-append b [] qs = refl
  behind-append b (p ∷ ps) qs = behind-append (book_by u b p) ps qs

  -- the answers to two lists of parts, and the book behind them
  told_on : (b b1 : Book) (ps qs : List Part) → b1 ≡ book_behind u b ps → answers_in u b (ps ++ qs) ≡ answers_in u b ps ++ answers_in u b1 qs
  told_on b b1 ps qs is = answers-append b ps qs ∙ ap (λ x. answers_in u b ps ++ answers_in u x qs) (sym is)

  pub book_on : (b b1 : Book) (ps qs : List Part) → b1 ≡ book_behind u b ps → book_behind u b1 qs ≡ book_behind u b (ps ++ qs)
  book_on b b1 ps qs is = ap (λ x. book_behind u x qs) is ∙ sym (behind-append b ps qs)

  pub written_on : (b b1 : Book) (ps qs : List Part) (old new new1 : Option (List ℕ)) → b1 ≡ book_behind u b ps → Appends old new (written (answers_in u b ps)) → Appends new new1 (written (answers_in u b1 qs)) → Appends old new1 (written (answers_in u b (ps ++ qs)))
  written_on b b1 ps qs old new new1 is f g =
      subst (Appends old new1) (sym (ap written (told_on b b1 ps qs is) ∙ written-append (answers_in u b ps) (answers_in u b1 qs))) (Appends-trans old new new1 _ _ f g)

  pub status_on : (b b1 : Book) (ps qs : List Part) (n m k : ℕ) → b1 ≡ book_behind u b ps → n ≡ final_status (answers_in u b ps) → m ≡ final_status (answers_in u b1 qs) → k ≡ max n m → k ≡ final_status (answers_in u b (ps ++ qs))
  status_on b b1 ps qs n m k is x y e =
      let all : final_status (answers_in u b (ps ++ qs)) ≡ max (final_status (answers_in u b ps)) (final_status (answers_in u b1 qs)) = ap final_status (told_on b b1 ps qs is) ∙ status-append (answers_in u b ps) (answers_in u b1 qs) in
      omega (arith, all, x, y, e)

module _ (u : Rules) (given_up : Book → List Command → Code → Type 0) where
  pub parts_on : (cut : List (List ℕ) → List (List ℕ) → Type 0) (b b1 : Book) (ps qs : List Part) (later : List (List ℕ)) → b1 ≡ book_behind u b ps → AreParts u given_up cut b ps (lines_in qs ++ later) → AreParts u given_up cut b1 qs later → AreParts u given_up cut b (ps ++ qs) later
  parts_on cut b b1 [] qs later is f g = subst (λ x. AreParts u given_up cut x qs later) is g
  parts_on cut b b1 (p ∷ ps) qs later is f g =
      let same : lines_in ps ++ (lines_in qs ++ later) ≡ lines_in (ps ++ qs) ++ later = lines_on (lines_in ps ++ (lines_in qs ++ later)) (lines_in qs ++ later) later ps qs refl refl in
      (f.0, (subst (IsCut cut p) same f.1.0, parts_on cut (book_by u b p) b1 ps qs later is f.1.1 g))

  -- ---- what is left of a part

  -- of its answers some were written
  pub part_written : (stops : Book → List Command → Stop → Type 0) (e : Fault) (b b1 : Book) (lines : List (List ℕ)) (old new : Option (List ℕ)) → TellsPart u given_up b b1 lines (λ answers. WritesSome e old new answers) → StopsAtSome u given_up stops e b b1 lines old new
  part_written stops e b b1 lines old new t =
      some_by e old new (answers_by u b t.part) (λ f. StopsAtSome u given_up stops f b b1 lines old new) t.told
      (λ front. (t.part ∷ [], (record { part = t.part; lines_are = t.lines_are; part_is = t.part_is; book_is = t.book_is; told = front }, refl)))
      (λ some. (t.part ∷ [], (record { part = t.part; lines_are = t.lines_are; part_is = t.part_is; book_is = t.book_is; told = some }, refl)))

  -- its commands have no answer
  pub none_replied : (stops : Book → List Command → Stop → Type 0) (b b1 : Book) (lines : List (List ℕ)) (out : Option (List ℕ)) (s : Stop) → stops b (commands_in lines) s → StopsAtSome u given_up stops (fault_of_stop s) b b1 lines out out
  none_replied stops b b1 lines out stop.Unknown is = ([], (refl, (is, keeps_self out)))
  none_replied stops b b1 lines out stop.Halted is = ([], (refl, (is, keeps_self out)))

  -- what holds of no part, and of one with its cause, holds of the part where it ends
  part_so : (so : List Part → Type 0) (here : List Part) (p : Part) → so (p ∷ []) → here ≡ p ∷ [] → so here
  part_so so here p is same = subst so (sym same) is

  none_so : (so : List Part → Type 0) (here : List Part) → so [] → here ≡ [] → so here
  none_so so here none same = subst so (sym same) none

  pub here_so : (so : List Part → Type 0) (stops : Book → List Command → Stop → Type 0) (f : Fault) (here : List Part) (b b1 : Book) (lines : List (List ℕ)) (old new : Option (List ℕ)) → so [] → ((p : Part) → IsPart given_up b p → so (p ∷ [])) → StopsAtPart u given_up stops f here b b1 lines old new → so here
  here_so so stops (fault.NoMemory _) here b b1 lines old new none one h = part_so so here h.0.part (one h.0.part h.0.part_is) h.1
  here_so so stops (fault.Mismatch run place name) here b b1 lines old new none one h = absurd h
  here_so so stops fault.NoRun here b b1 lines old new none one h = absurd h
  here_so so stops fault.StoreRefused here b b1 lines old new none one h = absurd h
  here_so so stops fault.NotOurs here b b1 lines old new none one h = absurd h
  here_so so stops fault.BadVersion here b b1 lines old new none one h = absurd h
  here_so so stops (fault.Damaged d) here b b1 lines old new none one h = absurd h
  here_so so stops fault.Unknown here b b1 lines old new none one h = none_so so here none h.0
  here_so so stops fault.Halted here b b1 lines old new none one h = none_so so here none h.0
  here_so so stops fault.NoFile here b b1 lines old new none one h = absurd h
  here_so so stops fault.InputFailed here b b1 lines old new none one h = absurd h
  here_so so stops fault.OutputFailed here b b1 lines old new none one h = part_so so here h.0.part (one h.0.part h.0.part_is) h.1
  here_so so stops fault.BadSettings here b b1 lines old new none one h = absurd h
  here_so so stops fault.BadUsage here b b1 lines old new none one h = absurd h

  module _ (counted : Book → List Part → Type 0) (cut : List (List ℕ) → List (List ℕ) → Type 0) where
    -- ---- lines that were answered

    -- nothing is answered yet
    pub begins : (b : Book) (known old : Option (List ℕ)) → counted b [] → IfSome known (λ bytes. Answered u given_up counted cut b b bytes known old old 0)
    begins b None old none = tt
    begins b (Some bytes) old none = record {
      parts = [];
      rest = bytes;
      left_is = refl;
      lines_are = refl;
      parts_are = tt;
      counted_is = none;
      book_is = refl;
      written_are = Appends-nil old;
      status_is = refl;
    }

    -- one line was answered that is no command
    pub bad_answered : (b : Book) (known left old new : Option (List ℕ)) (found line : List ℕ) (n : ℕ) → IfSome known (λ bytes. FirstLine bytes found left) → line ≡ found → line_command line ≡ None → Appends old new (line_text a_line.Bad ++ 10 ∷ []) → n ≡ answer_status a_line.Bad → ((p : Part) → IsPart given_up b p → counted b (p ∷ [])) → IfSome known (λ bytes. Answered u given_up counted cut b b bytes left old new n)
    bad_answered b None left old new found line n first same bad adds is one = tt
    bad_answered b (Some bytes) left old new found line n first same bad adds is one = record {
      parts = Lone line ∷ [];
      rest = drop_through 10 bytes;
      left_is = first.left_is;
      lines_are = first.lines_are ∙ ap (λ l. l ∷ lines_of (drop_through 10 bytes)) (sym same);
      parts_are = (bad, (tt, tt));
      counted_is = one (Lone line) bad;
      book_is = refl;
      written_are = subst (Appends old new) (sym (append-nil (line_text a_line.Bad ++ 10 ∷ []))) adds;
      status_is = is;
    }

    -- of two lists of parts, the ones behind the others, this is known
    module _ (before since : Book → List Part → Type 0) (add : (b b1 : Book) (ps qs : List Part) → b1 ≡ book_behind u b ps → before b ps → since b1 qs → counted b (ps ++ qs)) where
      joined : (b b1 b2 : Book) (bytes : List ℕ) (left left1 old new new1 : Option (List ℕ)) (n m k : ℕ) (f : Answered u given_up before cut b b1 bytes left old new n) → Answered u given_up since cut b1 b2 f.rest left1 new new1 m → k ≡ max n m → Answered u given_up counted cut b b2 bytes left1 old new1 k
      joined b b1 b2 bytes left left1 old new new1 n m k f g is = record {
        parts = f.parts ++ g.parts;
        rest = g.rest;
        left_is = g.left_is;
        lines_are = lines_on (lines_of bytes) (lines_of f.rest) (lines_of g.rest) f.parts g.parts f.lines_are g.lines_are;
        parts_are = parts_on cut b b1 f.parts g.parts (lines_of g.rest) f.book_is (subst (AreParts u given_up cut b f.parts) g.lines_are f.parts_are) g.parts_are;
        counted_is = add b b1 f.parts g.parts f.book_is f.counted_is g.counted_is;
        book_is = g.book_is ∙ book_on u b b1 f.parts g.parts f.book_is;
        written_are = written_on u b b1 f.parts g.parts old new new1 f.book_is f.written_are g.written_are;
        status_is = status_on u b b1 f.parts g.parts n m k f.book_is f.status_is g.status_is is;
      }

      -- and then some more
      pub goes_on : (b b1 b2 : Book) (known left left1 old new new1 : Option (List ℕ)) (n m k : ℕ) → IfSome known (λ bytes. Answered u given_up before cut b b1 bytes left old new n) → IfSome left (λ bytes. Answered u given_up since cut b1 b2 bytes left1 new new1 m) → k ≡ max n m → IfSome known (λ bytes. Answered u given_up counted cut b b2 bytes left1 old new1 k)
      goes_on b b1 b2 None left left1 old new new1 n m k f g is = tt
      goes_on b b1 b2 (Some bytes) left left1 old new new1 n m k f g is =
          joined b b1 b2 bytes left left1 old new new1 n m k f (subst (λ k. IfSome k (λ bytes. Answered u given_up since cut b1 b2 bytes left1 new new1 m)) f.left_is g) is

    -- at the end of the input
    pub all_answered : (b b1 : Book) (known left old new : Option (List ℕ)) (n : ℕ) → IfSome known (λ bytes. Answered u given_up counted cut b b1 bytes left old new n) → IfSome left (λ rest. rest ≡ []) → IfSome known (λ bytes. AllAnswered u given_up counted cut b b1 (lines_of bytes) old new n)
    all_answered b b1 None left old new n f end = tt
    all_answered b b1 (Some bytes) left old new n f end =
        let none : f.rest ≡ [] = subst (λ k. IfSome k (λ rest. rest ≡ [])) f.left_is end in
        record {
          parts = f.parts;
          lines_are = f.lines_are ∙ ap (λ r. lines_in f.parts ++ lines_of r) none ∙ append-nil (lines_in f.parts);
          parts_are = subst (λ r. AreParts u given_up cut b f.parts (lines_of r)) none f.parts_are;
          counted_is = f.counted_is;
          book_is = f.book_is;
          written_are = f.written_are;
          status_is = f.status_is;
        }

    -- ---- on an early end

    module _ (stops : Book → List Command → Stop → Type 0) where
      -- nothing was answered
      pub none_answered : (b : Book) (e : Fault) (whole : List (List ℕ)) (out : Option (List ℕ)) → StopsBetween e → counted b [] → StopsWithin u given_up counted stops cut b b e whole out out
      none_answered b e whole out between none =
          record { parts = []; later = whole; out = out; lines_are = refl; parts_are = tt; here = []; counted_is = none; written_are = Appends-nil out; ends = inl (between, (refl, (refl, keeps_self out))) }

      -- it ended in the first part
      pub first_stops : (b b1 : Book) (e : Fault) (whole next rest : List (List ℕ)) (old new : Option (List ℕ)) → whole ≡ next ++ rest → cut next rest → StopsAtSome u given_up stops e b b1 next old new → counted b [] → ((p : Part) → IsPart given_up b p → counted b (p ∷ [])) → StopsWithin u given_up counted stops cut b b1 e whole old new
      first_stops b b1 e whole next rest old new lines is at none one = record {
        parts = [];
        later = whole;
        out = old;
        lines_are = refl;
        parts_are = tt;
        here = at.0;
        counted_is = here_so (counted b) stops e at.0 b b1 next old new none one at.1;
        written_are = Appends-nil old;
        ends = inr (record { next = next; rest = rest; lines_are = lines; cut_is = inl is; stops_at = at.1 });
      }

      -- the answer to a line that is no command wasn't all written
      pub bad_stops : (b : Book) (e : Fault) (whole rest : List (List ℕ)) (old new : Option (List ℕ)) (line : List ℕ) → whole ≡ line ∷ rest → line_command line ≡ None → WritesPart e old new (line_text a_line.Bad ++ 10 ∷ []) → counted b [] → ((p : Part) → IsPart given_up b p → counted b (p ∷ [])) → StopsWithin u given_up counted stops cut b b e whole old new
      bad_stops b e whole rest old new line lines bad w none one =
          part_by e old new (line_text a_line.Bad ++ 10 ∷ []) (λ f. StopsWithin u given_up counted stops cut b b f whole old new) w
          (λ kept. record { parts = []; later = whole; out = old; lines_are = refl; parts_are = tt; here = []; counted_is = none; written_are = Appends-nil old; ends = inl (inl refl, (refl, (refl, kept))) })
          (λ begun. record {
            parts = [];
            later = whole;
            out = old;
            lines_are = refl;
            parts_are = tt;
            here = Lone line ∷ [];
            counted_is = one (Lone line) bad;
            written_are = Appends-nil old;
            ends = inr (record {
              next = line ∷ [];
              rest = rest;
              lines_are = lines;
              cut_is = inr (line, (refl, bad));
              stops_at = (record { part = Lone line; lines_are = refl; part_is = bad; book_is = refl; told = subst (WritesBeginning old new) (sym (append-nil (line_text a_line.Bad ++ 10 ∷ []))) begun }, refl);
            });
          })

      pub bad_written : (b : Book) (e : Fault) (known left old new : Option (List ℕ)) (found line : List ℕ) → IfSome known (λ bytes. FirstLine bytes found left) → line ≡ found → line_command line ≡ None → WritesPart e old new (line_text a_line.Bad ++ 10 ∷ []) → counted b [] → ((p : Part) → IsPart given_up b p → counted b (p ∷ []))
          → IfSome known (λ bytes. StopsWithin u given_up counted stops cut b b e (lines_of bytes) old new)
      bad_written b e None left old new found line first same bad w none one = tt
      bad_written b e (Some bytes) left old new found line first same bad w none one =
          bad_stops b e (lines_of bytes) (lines_of (drop_through 10 bytes)) old new line (first.lines_are ∙ ap (λ l. l ∷ lines_of (drop_through 10 bytes)) (sym same)) bad w none one

      module _ (before since : Book → List Part → Type 0) (add : (b b1 : Book) (ps qs : List Part) → b1 ≡ book_behind u b ps → before b ps → since b1 qs → counted b (ps ++ qs)) where
        stops_behind : (b b1 b2 : Book) (e : Fault) (bytes : List ℕ) (left old new new1 : Option (List ℕ)) (n : ℕ) (f : Answered u given_up before cut b b1 bytes left old new n) → StopsWithin u given_up since stops cut b1 b2 e (lines_of f.rest) new new1 → StopsWithin u given_up counted stops cut b b2 e (lines_of bytes) old new1
        stops_behind b b1 b2 e bytes left old new new1 n f w = record {
          parts = f.parts ++ w.parts;
          later = w.later;
          out = w.out;
          lines_are = lines_on (lines_of bytes) (lines_of f.rest) w.later f.parts w.parts f.lines_are w.lines_are;
          parts_are = parts_on cut b b1 f.parts w.parts w.later f.book_is (subst (AreParts u given_up cut b f.parts) w.lines_are f.parts_are) w.parts_are;
          here = w.here;
          counted_is = subst (counted b) (sym (append_assoc f.parts w.parts w.here)) (add b b1 f.parts (w.parts ++ w.here) f.book_is f.counted_is w.counted_is);
          written_are = written_on u b b1 f.parts w.parts old new w.out f.book_is f.written_are w.written_are;
          ends = subst (λ x. StopsNext u given_up stops cut e w.here x b2 w.later w.out new1) (book_on u b b1 f.parts w.parts f.book_is) w.ends;
        }

        -- what stops the lines behind stops them all
        pub stops_later : (b b1 b2 : Book) (e : Fault) (known left old new new1 : Option (List ℕ)) (n : ℕ) → IfSome known (λ bytes. Answered u given_up before cut b b1 bytes left old new n) → IfSome left (λ bytes. StopsWithin u given_up since stops cut b1 b2 e (lines_of bytes) new new1) → IfSome known (λ bytes. StopsWithin u given_up counted stops cut b b2 e (lines_of bytes) old new1)
        stops_later b b1 b2 e None left old new new1 n f w = tt
        stops_later b b1 b2 e (Some bytes) left old new new1 n f w =
            stops_behind b b1 b2 e bytes left old new new1 n f (subst (λ k. IfSome k (λ bytes. StopsWithin u given_up since stops cut b1 b2 e (lines_of bytes) new new1)) f.left_is w)
