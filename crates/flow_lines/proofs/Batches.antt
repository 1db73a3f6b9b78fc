-- Lines whose commands are applied together.
use Rattle.std.proofs.Common.{◌≡◌, ℕ, suc, ◌+◌, ◌≤◌, ◌<◌, Bool, true, false, List, [], ◌∷◌, ◌++◌, length, Option, Some, None, IfSome, refl, sym, ap, ◌∙◌, subst, arith, append_assoc, append-nil, length-append, inl, inr, max}
use Rattle.std.specs.Prelude.{◌⊎◌, ◌^◌, is_some}
use Rattle.std.specs.Io.KnownBytes.{Appends}
use Rattle.std.specs.Io.BufRead.{drop_through}
use Rattle.std.proofs.KnownBytes.{Appends-nil, Appends-trans}
use Rattle.std.proofs.lemmas.List.{length-map, map-append}
use Rattle.flow_base.specs.declared.code.Code.{Code}
use Rattle.flow_base.specs.declared.command.Command.{Command}
use Rattle.flow_base.specs.declared.command.Reply.{Reply}
use Rattle.flow_model.specs.Apply.{Rules, outcome, after, after_one, replies}
use Rattle.flow_base.specs.declared.fault.Fault.{Fault}
use Rattle.flow_model.specs.Book.{Book}
use Rattle.flow_model.specs.Answers.{IsGivenUp}
use Rattle.flow_model.specs.declared.answer.Stop.{Stop}
use Rattle.flow_lines.specs.Answering.{Part, Applied, GivenUp, IsPart, FirstLine, Answered, BatchAnswered, EndsFull, EndsNext, Gathered, HasEnded, HasFew, HasOneMore, HoldsLines, IsBatch, IsFilled, IsFull, OfBatch, ReadAs, StatusWithin, StopsAtSome, StopsBetween, StopsWithin, TellsPart, WritesAll, WritesPart, WritesSome, all_applied, all_given_up, answers_by, are_commands, commands_in, last_or, lines_by, lines_told, marked, with_command}
use Rattle.flow_lines.specs.Commands.{line_command}
use Rattle.flow_lines.specs.Driving.{lines_of, written, answer_status, final_status}
use Rattle.flow_lines.specs.Replies.{line_text}
use Rattle.flow_lines.specs.Stopping.{CausedFault, ComeNext, BeginWith, StoppedBy, StopsAt}
use Rattle.flow_lines.specs.declared.reply.Line.{Line}
use Rattle.flow_lines.specs.declared.reply.Line.TheVariants as a_line
use Rattle.flow_lines.proofs.Answering.{as_cut, first_stops, kept_appends, none_answered, part_by, status-append, written-append}
use Rattle.flow_lines.proofs.Stopping.{fault_by}

-- what stands behind commands stands behind a batch of them
pub caused_batch : {X : Type 0} (most : ℕ) (cause : Book → List Command → X → Type 0) (b : Book) (commands : List Command) (x : X) → 1 ≤ length commands → length commands ≤ most → cause b commands x → OfBatch most cause b commands x
caused_batch most cause b commands x some few is = (record { some = some; few = few }, is)

-- a first line and those behind it are the batch's
pub holds_first : (first : List ℕ) (c : Command) (commands : List Command) (marks : List Bool) (known left : Option (List ℕ)) → (g : Gathered (c ∷ []) commands (true ∷ []) marks known left) → line_command first ≡ Some c → HoldsLines (first ∷ g.lines) commands marks
holds_first first c commands marks known left g given =
    record { commands_are = g.commands_are ∙ ap (λ o. with_command o (commands_in g.lines)) (sym given); marks_are = g.marks_are ∙ ap (λ o. is_some o ∷ are_commands g.lines) (sym given) }

-- ---- what is told of lines

by_command : {G : Type 0} (o : Option Command) → (o ≡ None → G) → ((c : Command) → o ≡ Some c → G) → G
by_command None none some = none refl
by_command (Some c) none some = some c refl

told_applied : (u : Rules) (k : Code) (b : Book) (ls : List (List ℕ)) → lines_told k (are_commands ls) (replies u b (commands_in ls)) ≡ all_applied u b ls
told_applied u k b [] = refl
told_applied u k b (l ∷ ls) =
    by_command (line_command l) (λ e. rw e (ap (λ x. a_line.Bad ∷ x) (told_applied u k b ls))) (λ c e. rw e (ap (λ x. a_line.Of (outcome u b c).reply ∷ x) (told_applied u k (after_one u b c) ls)))

told_given_up : (k : Code) (ls : List (List ℕ)) → lines_told k (are_commands ls) [] ≡ all_given_up k ls
told_given_up k [] = refl
told_given_up k (l ∷ ls) = by_command (line_command l) (λ e. rw e (ap (λ x. a_line.Bad ∷ x) (told_given_up k ls))) (λ c e. rw e (ap (λ x. a_line.NotApplied k ∷ x) (told_given_up k ls)))

-- ---- a batch that was gathered

module _ (most : ℕ) (first : List ℕ) (c : Command) (commands : List Command) (marks : List Bool) (given : line_command first ≡ Some c) (some : 1 ≤ length commands) (few : length commands ≤ most) (ends : EndsFull most commands marks) where
  holds_few : (lines : List (List ℕ)) → HoldsLines (first ∷ lines) commands marks → IsBatch most (commands_in (first ∷ lines))
  holds_few lines h = let same = ap length h.commands_are in record { some = subst (λ n. 1 ≤ n) same some; few = subst (λ n. n ≤ most) same few }

  holds_ends : (lines : List (List ℕ)) → HoldsLines (first ∷ lines) commands marks → EndsFull most (commands_in (first ∷ lines)) (are_commands (first ∷ lines))
  holds_ends lines h e = subst (λ m. last_or false m ≡ true) h.marks_are (ends (ap length h.commands_are ∙ e))

  pub is_few : (lines later : List (List ℕ)) → HoldsLines (first ∷ lines) commands marks → HasFew most (first ∷ lines) later
  is_few lines later h = (ap is_some given, (holds_few lines h, holds_ends lines h))

  full_by : (lines : List (List ℕ)) (left : Option (List ℕ)) (rest : List ℕ) → HoldsLines (first ∷ lines) commands marks → left ≡ Some rest → (length commands ≡ most) ⊎ ((2 ^ 64 ≤ length marks) ⊎ IfSome left (λ r. r ≡ []))
      → (length (commands_in (first ∷ lines)) ≡ most) ⊎ ((2 ^ 64 ≤ length (first ∷ lines)) ⊎ (lines_of rest ≡ []))
  full_by lines left rest h is (inl all) = inl (sym (ap length h.commands_are) ∙ all)
  full_by lines left rest h is (inr (inl many)) = inr (inl (subst (λ n. 2 ^ 64 ≤ n) (ap length h.marks_are ∙ length-map (first ∷ lines) (λ l. is_some (line_command l))) many))
  full_by lines left rest h is (inr (inr ended)) = inr (inr (ap lines_of (subst (λ k. IfSome k (λ r. r ≡ [])) is ended)))

  pub is_full : (lines : List (List ℕ)) (left : Option (List ℕ)) (rest : List ℕ) → HoldsLines (first ∷ lines) commands marks → left ≡ Some rest → (length commands ≡ most) ⊎ ((2 ^ 64 ≤ length marks) ⊎ IfSome left (λ r. r ≡ [])) → IsFull most (first ∷ lines) (lines_of rest)
  is_full lines left rest h is filled = record { begins = ap is_some given; batch = holds_few lines h; full = full_by lines left rest h is filled; ends = holds_ends lines h }

module _ (u : Rules) (given_up : Book → List Command → Code → Type 0) where
  module _ (b b1 : Book) (lines : List (List ℕ)) (commands : List Command) (marks : List Bool) (holds : HoldsLines lines commands marks) (tells : List Line → Type 0) where
    -- where its commands are applied
    pub batch_replied : (k : Code) (rs : List Reply) → (rs ≡ replies u b commands) × (b1 ≡ after u b commands) → tells (lines_told k marks rs) → TellsPart u given_up b b1 lines tells
    batch_replied k rs is told =
        let cs = holds.commands_are in
        let same : lines_told k marks rs ≡ all_applied u b lines = ap (λ m. lines_told k m rs) holds.marks_are ∙ ap (λ r. lines_told k (are_commands lines) r) (is.0 ∙ ap (replies u b) cs) ∙ told_applied u k b lines in
        record { part = Applied lines; lines_are = refl; part_is = tt; book_is = is.1 ∙ ap (after u b) cs; told = subst tells same told }

    -- where they are given up
    pub batch_given_up : (k : Code) (rs : List Reply) → rs ≡ [] → IsGivenUp k × given_up b commands k → b1 ≡ b → tells (lines_told k marks rs) → TellsPart u given_up b b1 lines tells
    batch_given_up k rs none is same told =
        let all : lines_told k marks rs ≡ all_given_up k lines = ap (λ m. lines_told k m rs) holds.marks_are ∙ ap (λ r. lines_told k (are_commands lines) r) none ∙ told_given_up k lines in
        record { part = GivenUp lines k; lines_are = refl; part_is = (is.0, subst (λ cs. given_up b cs k) holds.commands_are is.1); book_is = same; told = subst tells all told }

  -- ---- the bytes that they were read from

  pub begins_batch : (most : ℕ) (b b1 : Book) (c : Command) (commands : List Command) (marks : List Bool) (known left old new : Option (List ℕ)) (n : ℕ) → Gathered (c ∷ []) commands (true ∷ []) marks known left → 1 ≤ length commands → length commands ≤ most → EndsFull most commands marks → IsFilled most commands marks known left
      → ((ls : List (List ℕ)) → HoldsLines ls commands marks → TellsPart u given_up b b1 ls (WritesAll old new n)) → IfSome known (λ bytes. (first : List ℕ) → line_command first ≡ Some c → BatchAnswered u given_up (IsFull most) b b1 first bytes left old new n)
  begins_batch most b b1 c commands marks None left old new n g some few last filled all = tt
  begins_batch most b b1 c commands marks (Some bytes) left old new n g some few last filled all = λ first given.
      let holds = holds_first first c commands marks (Some bytes) left g given in
      record {
        lines = g.lines;
        rest = g.read.rest;
        left_is = g.read.left_is;
        lines_are = g.read.lines_are;
        cut_is = is_full most first c commands marks given some few last g.lines left g.read.rest holds g.read.left_is filled;
        tells = all (first ∷ g.lines) holds;
      }

  pub stops_batch : (counted : Book → List Part → Type 0) (stops : Book → List Command → Stop → Type 0) (most : ℕ) (b b1 : Book) (e : Fault) (c : Command) (commands : List Command) (marks : List Bool) (known left old new : Option (List ℕ)) → Gathered (c ∷ []) commands (true ∷ []) marks known left → 1 ≤ length commands → length commands ≤ most → EndsFull most commands marks → IsFilled most commands marks known left
      → ((ls : List (List ℕ)) → HoldsLines ls commands marks → StopsAtSome u given_up stops e b b1 ls old new) → counted b [] → ((p : Part) → IsPart given_up b p → counted b (p ∷ [])) → IfSome known (λ bytes. (first : List ℕ) → line_command first ≡ Some c → StopsWithin u given_up counted stops (IsFull most) b b1 e (first ∷ lines_of bytes) old new)
  stops_batch counted stops most b b1 e c commands marks None left old new g some few last filled ends none one = tt
  stops_batch counted stops most b b1 e c commands marks (Some bytes) left old new g some few last filled ends none one = λ first given.
      let holds = holds_first first c commands marks (Some bytes) left g given in
      first_stops u given_up counted (IsFull most) stops b b1 e (first ∷ lines_of bytes) (first ∷ g.lines) (lines_of g.read.rest) old new (ap (λ l. first ∷ l) g.read.lines_are)
      (is_full most first c commands marks given some few last g.lines left g.read.rest holds g.read.left_is filled) (ends (first ∷ g.lines) holds) none one

  module _ (cut : List (List ℕ) → List (List ℕ) → Type 0) where
    -- nothing of a batch is answered that wasn't begun
    pub none_begun : (counted : Book → List Part → Type 0) (stops : Book → List Command → Stop → Type 0) (b : Book) (e : Fault) (c : Command) (known out : Option (List ℕ)) → StopsBetween e → counted b [] → IfSome known (λ bytes. (first : List ℕ) → line_command first ≡ Some c → StopsWithin u given_up counted stops cut b b e (first ∷ lines_of bytes) out out)
    none_begun counted stops b e c None out between none = tt
    none_begun counted stops b e c (Some bytes) out between none = λ first given. none_answered u given_up counted cut stops b e (first ∷ lines_of bytes) out between none

    -- the batch's lines are the first ones
    pub next_batch : (counted : Book → List Part → Type 0) (b b1 : Book) (known left left1 old new : Option (List ℕ)) (found line : List ℕ) (c : Command) (n : ℕ) → IfSome known (λ bytes. FirstLine bytes found left) → line ≡ found → line_command line ≡ Some c → IfSome left (λ bytes. (first : List ℕ) → line_command first ≡ Some c → BatchAnswered u given_up cut b b1 first bytes left1 old new n)
        → ((p : Part) → IsPart given_up b p → counted b (p ∷ [])) → IfSome known (λ bytes. Answered u given_up counted cut b b1 bytes left1 old new n)
    next_batch counted b b1 None left left1 old new found line c n first same given batch one = tt
    next_batch counted b b1 (Some bytes) left left1 old new found line c n first same given batch one =
        let its = subst (λ k. IfSome k (λ rest. (l : List ℕ) → line_command l ≡ Some c → BatchAnswered u given_up cut b b1 l rest left1 old new n)) first.left_is batch line given in
        let p = its.tells.part in
        record {
          parts = p ∷ [];
          rest = its.rest;
          left_is = its.left_is;
          lines_are =
              first.lines_are ∙ ap (λ l. l ∷ lines_of (drop_through 10 bytes)) (sym same) ∙ ap (λ l. line ∷ l) its.lines_are
              ∙ ap (λ l. l ++ lines_of its.rest) (its.tells.lines_are ∙ sym (append-nil (lines_by p)));
          parts_are = (its.tells.part_is, (as_cut cut p (line ∷ its.lines) (lines_of its.rest) its.tells.lines_are its.cut_is, tt));
          counted_is = one p its.tells.part_is;
          book_is = its.tells.book_is;
          written_are = subst (λ l. Appends old new (written l)) (sym (append-nil (answers_by u b p))) its.tells.told.written_are;
          status_is = its.tells.told.status_is ∙ ap final_status (sym (append-nil (answers_by u b p)));
        }

    pub next_stops : (counted : Book → List Part → Type 0) (stops : Book → List Command → Stop → Type 0) (b b1 : Book) (e : Fault) (known left old new : Option (List ℕ)) (found line : List ℕ) (c : Command) → IfSome known (λ bytes. FirstLine bytes found left) → line ≡ found → line_command line ≡ Some c → IfSome left (λ bytes. (first : List ℕ) → line_command first ≡ Some c → StopsWithin u given_up counted stops cut b b1 e (first ∷ lines_of bytes) old new)
        → IfSome known (λ bytes. StopsWithin u given_up counted stops cut b b1 e (lines_of bytes) old new)
    next_stops counted stops b b1 e None left old new found line c first same given ends = tt
    next_stops counted stops b b1 e (Some bytes) left old new found line c first same given ends =
        let its = subst (λ k. IfSome k (λ rest. (l : List ℕ) → line_command l ≡ Some c → StopsWithin u given_up counted stops cut b b1 e (l ∷ lines_of rest) old new)) first.left_is ends line given in
        subst (λ l. StopsWithin u given_up counted stops cut b b1 e l old new) (sym (first.lines_are ∙ ap (λ l. l ∷ lines_of (drop_through 10 bytes)) (sym same))) its

    come_next : (b : Book) (known left : Option (List ℕ)) (found line : List ℕ) (c : Command) (commands : List Command) → IfSome known (λ bytes. FirstLine bytes found left) → line ≡ found → line_command line ≡ Some c → IfSome left (λ bytes. BeginWith c bytes commands)
        → IfSome known (λ bytes. ComeNext u given_up cut b bytes b commands)
    come_next b None left found line c commands first same given begin = tt
    come_next b (Some bytes) left found line c commands first same given begin =
        let its = subst (λ k. IfSome k (λ rest. BeginWith c rest commands)) first.left_is begin in
        record {
          parts = [];
          next = line ∷ its.lines;
          later = its.later;
          lines_are = first.lines_are ∙ ap (λ l. l ∷ lines_of (drop_through 10 bytes)) (sym same) ∙ ap (λ l. line ∷ l) its.lines_are;
          parts_are = tt;
          book_is = refl;
          commands_are = its.commands_are ∙ ap (λ o. with_command o (commands_in its.lines)) (sym given);
        }

    pub next_cause : (b : Book) (e : Fault) (stops : Book → List Command → Stop → Type 0) (sure : Type 0) (known left : Option (List ℕ)) (found line : List ℕ) (c : Command) → IfSome known (λ bytes. FirstLine bytes found left) → line ≡ found → line_command line ≡ Some c
        → CausedFault e (StopsAt (stops b) c left) → CausedFault e (StoppedBy u given_up stops cut sure b known)
    next_cause b e stops sure known left found line c first same given cause =
        fault_by e (StopsAt (stops b) c left) (StoppedBy u given_up stops cut sure b known)
        (λ s x. (b, (x.0, (x.1.0, λ _. come_next b known left found line c x.0 first same given x.1.1)))) cause

pub begin_cause : (e : Fault) (most : ℕ) (b : Book) (stops : Book → List Command → Stop → Type 0) (c : Command) (commands : List Command) (marks : List Bool) (known left : Option (List ℕ)) → 1 ≤ length commands → length commands ≤ most → Gathered (c ∷ []) commands (true ∷ []) marks known left → CausedFault e (stops b commands) → CausedFault e (StopsAt (OfBatch most stops b) c known)
begin_cause e most b stops c commands marks known left some few g cause =
    fault_by e (stops b commands) (StopsAt (OfBatch most stops b) c known) (λ s x. (commands, (caused_batch most stops b commands s some few x, begins known g))) cause
  where
    begins : (known1 : Option (List ℕ)) → Gathered (c ∷ []) commands (true ∷ []) marks known1 left → IfSome known1 (λ bytes. BeginWith c bytes commands)
    begins None g1 = tt
    begins (Some bytes) g1 = record { lines = g1.lines; later = lines_of g1.read.rest; lines_are = g1.read.lines_are; commands_are = g1.commands_are }

-- ---- statuses

told_low : (k : Code) (ms : List Bool) (rs : List Reply) → length rs ≡ marked ms → final_status (lines_told k ms rs) ≤ 1
told_low k [] rs e = omega arith
told_low k (false ∷ ms) rs e = let rest = told_low k ms rs e in omega (arith, rest)
told_low k (true ∷ ms) [] e = absurd (omega (arith, e))
told_low k (true ∷ ms) (r ∷ rs) e = let rest = told_low k ms rs (omega (arith, e)) in omega (arith, rest)

told_high : (k : Code) (ms : List Bool) → (final_status (lines_told k ms []) ≤ 1) ⊎ (final_status (lines_told k ms []) ≡ 3)
told_high k [] = inl (omega arith)
told_high k (false ∷ ms) = elim (told_high k ms) [
  | inl low ↦ inl (omega (arith, low))
  | inr high ↦ inr (omega (arith, high))
]
told_high k (true ∷ ms) = elim (told_high k ms) [
  | inl low ↦ inr (omega (arith, low))
  | inr high ↦ inr (omega (arith, high))
]

pub replied_within : (given_up : Book → List Command → Code → Type 0) (k : Code) (ms : List Bool) (rs : List Reply) (n : ℕ) → length rs ≡ marked ms → n ≡ final_status (lines_told k ms rs) → StatusWithin given_up n
replied_within given_up k ms rs n long is = let low = told_low k ms rs long in inl (omega (arith, low, is))

pub given_up_within : (given_up : Book → List Command → Code → Type 0) (b : Book) (commands : List Command) (k : Code) (ms : List Bool) (rs : List Reply) (n : ℕ) → rs ≡ [] → given_up b commands k → n ≡ final_status (lines_told k ms rs) → StatusWithin given_up n
given_up_within given_up b commands k ms rs n none gives is =
    let same : n ≡ final_status (lines_told k ms []) = is ∙ ap (λ l. final_status (lines_told k ms l)) none in
    elim (told_high k ms) [
      | inl low ↦ inl (omega (arith, low, same))
      | inr high ↦ inr (same ∙ high, record { book = b; commands = commands; code = k; is = gives })
    ]

-- ---- the lines of a batch

marked_lines : (ls : List (List ℕ)) → marked (are_commands ls) ≡ length (commands_in ls)
marked_lines [] = refl
marked_lines (l ∷ ls) = by_command (line_command l) (λ e. rw e (marked_lines ls)) (λ c e. rw e (ap suc (marked_lines ls)))

-- as many lines are commands as there are commands
pub batch_marked : (c : Command) (commands : List Command) (marks : List Bool) (known left : Option (List ℕ)) → Gathered (c ∷ []) commands (true ∷ []) marks known left → marked marks ≡ length commands
batch_marked c commands marks known left g = rw (g.marks_are, g.commands_are) (ap suc (marked_lines g.lines))

commands_more : (xs ys : List (List ℕ)) → commands_in (xs ++ ys) ≡ commands_in xs ++ commands_in ys
commands_more [] ys = refl
commands_more (x ∷ xs) ys = by_command (line_command x) (λ e. rw e (commands_more xs ys)) (λ c e. rw e (ap (λ l. c ∷ l) (commands_more xs ys)))

read_more : (xs ys : List (List ℕ)) (known mid left : Option (List ℕ)) → IfSome known (λ bytes. ReadAs xs bytes mid) → IfSome mid (λ bytes. ReadAs ys bytes left) → IfSome known (λ bytes. ReadAs (xs ++ ys) bytes left)
read_more xs ys None mid left f g = tt
read_more xs ys (Some bytes) mid left f g =
    let its = subst (λ k. IfSome k (λ rest. ReadAs ys rest left)) f.left_is g in
    record { rest = its.rest; left_is = its.left_is; lines_are = f.lines_are ∙ ap (λ l. xs ++ l) its.lines_are ∙ sym (append_assoc xs ys (lines_of its.rest)) }

none_gathered : (commands : List Command) (marks : List Bool) (known : Option (List ℕ)) → Gathered commands commands marks marks known known
none_gathered commands marks known = record { lines = []; commands_are = sym (append-nil commands); marks_are = sym (append-nil marks); read = read_none known }
  where
    read_none : (k : Option (List ℕ)) → IfSome k (λ bytes. ReadAs [] bytes k)
    read_none None = tt
    read_none (Some bytes) = record { rest = bytes; left_is = refl; lines_are = refl }

-- a batch as it was begun
pub as_begun : (cs cs1 : List Command) (ms ms1 : List Bool) (known : Option (List ℕ)) → cs1 ≡ cs → ms1 ≡ ms → Gathered cs cs1 ms ms1 known known
as_begun cs cs1 ms ms1 known same_cs same_ms =
    subst (λ x. Gathered cs x ms ms1 known known) (sym same_cs) (subst (λ x. Gathered cs cs ms x known known) (sym same_ms) (none_gathered cs ms known))

-- some lines and then some more
pub gathered_on : (cs cs1 cs2 : List Command) (ms ms1 ms2 : List Bool) (known mid left : Option (List ℕ)) → Gathered cs cs1 ms ms1 known mid → Gathered cs1 cs2 ms1 ms2 mid left → Gathered cs cs2 ms ms2 known left
gathered_on cs cs1 cs2 ms ms1 ms2 known mid left f g = record {
  lines = f.lines ++ g.lines;
  commands_are = g.commands_are ∙ ap (λ l. l ++ commands_in g.lines) f.commands_are ∙ append_assoc cs (commands_in f.lines) (commands_in g.lines) ∙ ap (λ l. cs ++ l) (sym (commands_more f.lines g.lines));
  marks_are = g.marks_are ∙ ap (λ l. l ++ are_commands g.lines) f.marks_are ∙ append_assoc ms (are_commands f.lines) (are_commands g.lines) ∙ ap (λ l. ms ++ l) (sym (map-append (λ l. is_some (line_command l)) f.lines g.lines));
  read = read_more f.lines g.lines known mid left f.read g.read;
}

-- one line
pub one_gathered : (cs cs1 : List Command) (ms ms1 : List Bool) (known left : Option (List ℕ)) (found line : List ℕ) → IfSome known (λ bytes. FirstLine bytes found left) → line ≡ found → cs1 ≡ cs ++ commands_in (line ∷ []) → ms1 ≡ ms ++ are_commands (line ∷ []) → Gathered cs cs1 ms ms1 known left
one_gathered cs cs1 ms ms1 known left found line first same commands marks = record { lines = line ∷ []; commands_are = commands; marks_are = marks; read = read_one known first }
  where
    read_one : (k : Option (List ℕ)) → IfSome k (λ bytes. FirstLine bytes found left) → IfSome k (λ bytes. ReadAs (line ∷ []) bytes left)
    read_one None f = tt
    read_one (Some bytes) f = record { rest = drop_through 10 bytes; left_is = f.left_is; lines_are = f.lines_are ∙ ap (λ l. l ∷ lines_of (drop_through 10 bytes)) (sym same) }

-- the input has ended
pub end_gathered : (cs : List Command) (ms : List Bool) (known left : Option (List ℕ)) → IfSome known (λ bytes. (bytes ≡ []) × (left ≡ Some bytes)) → Gathered cs cs ms ms known left
end_gathered cs ms known left end = record { lines = []; commands_are = sym (append-nil cs); marks_are = sym (append-nil ms); read = read_end known end }
  where
    read_end : (k : Option (List ℕ)) → IfSome k (λ bytes. (bytes ≡ []) × (left ≡ Some bytes)) → IfSome k (λ bytes. ReadAs [] bytes left)
    read_end None e = tt
    read_end (Some bytes) e = record { rest = bytes; left_is = e.1; lines_are = refl }

-- where nothing was left to read, nothing is left
pub ended_left : (known left : Option (List ℕ)) → IfSome known (λ bytes. (bytes ≡ []) × (left ≡ Some bytes)) → HasEnded known left
ended_left None left end = tt
ended_left (Some bytes) left end = subst (λ k. IfSome k (λ r. r ≡ [])) (sym end.1) end.0

-- nor behind the lines that were gathered
pub ended_on : (cs cs1 : List Command) (ms ms1 : List Bool) (known mid left : Option (List ℕ)) → Gathered cs cs1 ms ms1 known mid → HasEnded mid left → HasEnded known left
ended_on cs cs1 ms ms1 None mid left g end = tt
ended_on cs cs1 ms ms1 (Some bytes) mid left g end = subst (λ k. HasEnded k left) g.read.left_is end

-- a line has one command at most
pub one_more_command : (cs cs1 : List Command) (l : List ℕ) → cs1 ≡ cs ++ commands_in (l ∷ []) → HasOneMore cs cs1
one_more_command cs cs1 l e =
    by_command (line_command l)
    (λ is.
    let same : cs1 ≡ cs ++ [] = e ∙ ap (λ o. cs ++ with_command o []) is in
    let long : length cs1 ≡ length cs = ap length same ∙ ap length (append-nil cs) in
    record { longer = omega (arith, long); few = omega (arith, long) })
    (λ c is.
    let same : cs1 ≡ cs ++ c ∷ [] = e ∙ ap (λ o. cs ++ with_command o []) is in
    let long : length cs1 ≡ length cs + 1 = ap length same ∙ length-append cs (c ∷ []) in
    record { longer = omega (arith, long); few = omega (arith, long) })

-- ---- the last line of a batch

last_of : (b : Bool) (ms : List Bool) (m : Bool) → last_or b (ms ++ m ∷ []) ≡ m
last_of b [] m = refl
last_of b (x ∷ ms) m = last_of x ms m

-- a line that is a command is the last one
pub ends_next : (cs cs1 : List Command) (ms ms1 : List Bool) (l : List ℕ) → cs1 ≡ cs ++ commands_in (l ∷ []) → ms1 ≡ ms ++ are_commands (l ∷ []) → EndsNext cs cs1 ms1
ends_next cs cs1 ms ms1 l commands marks =
    by_command (line_command l)
    (λ is. let same : cs1 ≡ cs ++ [] = commands ∙ ap (λ o. cs ++ with_command o []) is in inl (ap length same ∙ ap length (append-nil cs)))
    (λ c is. let same : ms1 ≡ ms ++ true ∷ [] = marks ∙ ap (λ o. ms ++ is_some o ∷ []) is in inr (ap (last_or false) same ∙ last_of false ms true))

-- lines are read only while the batch isn't full, so it is full only by its last line
pub ends_full : (most : ℕ) (cs cs1 : List Command) (ms1 : List Bool) → length cs < most → EndsNext cs cs1 ms1 → EndsFull most cs1 ms1
ends_full most cs cs1 ms1 below (inl same) all = absurd (omega (arith, below, same, all))
ends_full most cs cs1 ms1 below (inr last) all = last

-- ---- what is written

-- What is still to be told, with the answers so far, is the whole.
pub record Telling (whole left : List Line) (old now : Option (List ℕ)) (status : ℕ) : Type 0 where
  pub front : List Line
  pub split : whole ≡ front ++ left
  pub written_are : Appends old now (written front)
  pub status_is : status ≡ final_status front

pub telling_begins : (whole : List Line) (out : Option (List ℕ)) → Telling whole whole out out 0
telling_begins whole out = record { front = []; split = refl; written_are = Appends-nil out; status_is = refl }

pub telling_more : (whole now left : List Line) (a : Line) (old mid new : Option (List ℕ)) (n m : ℕ) → now ≡ a ∷ left → Telling whole now old mid n → Appends mid new (line_text a ++ 10 ∷ []) → m ≡ max n (answer_status a) → Telling whole left old new m
telling_more whole now left a old mid new n m next was adds is =
    let status : final_status (was.front ++ a ∷ []) ≡ max (final_status was.front) (final_status (a ∷ [])) = status-append was.front (a ∷ []) in
    let before : n ≡ final_status was.front = was.status_is in
    record {
      front = was.front ++ a ∷ [];
      split = was.split ∙ ap (λ l. was.front ++ l) next ∙ sym (append_assoc was.front (a ∷ []) left);
      written_are =
          subst (Appends old new) (sym (written-append was.front (a ∷ []) ∙ ap (λ l. written was.front ++ l) (append-nil (line_text a ++ 10 ∷ []))))
          (Appends-trans old mid new _ _ was.written_are adds);
      status_is = omega (arith, status, before, is);
    }

pub telling_done : (whole left : List Line) (old now : Option (List ℕ)) (n : ℕ) → Telling whole left old now n → left ≡ [] → Appends old now (written whole) × (n ≡ final_status whole)
telling_done whole left old now n was none =
    let all : was.front ≡ whole = sym (was.split ∙ ap (λ l. was.front ++ l) none ∙ append-nil was.front) in
    (subst (λ l. Appends old now (written l)) all was.written_are, was.status_is ∙ ap final_status all)

pub telling_stops : (e : Fault) (whole now left : List Line) (a : Line) (old mid new : Option (List ℕ)) (n : ℕ) → now ≡ a ∷ left → Telling whole now old mid n → WritesPart e mid new (line_text a ++ 10 ∷ []) → WritesSome e old new whole
telling_stops e whole now left a old mid new n next was w =
    part_by e mid new (line_text a ++ 10 ∷ []) (λ f. WritesSome f old new whole) w
    (λ kept. (was.front, (now, (was.split, subst (Appends old new) (append-nil (written was.front)) (Appends-trans old mid new _ _ was.written_are (kept_appends mid new kept))))))
    (λ begun. record {
      front = written was.front ++ begun.front;
      back = begun.back ++ written left;
      bytes_are =
          ap written (was.split ∙ ap (λ l. was.front ++ l) next) ∙ written-append was.front (a ∷ left)
          ∙ ap (λ l. written was.front ++ (l ++ written left)) begun.bytes_are
          ∙ ap (λ l. written was.front ++ l) (append_assoc begun.front begun.back (written left))
          ∙ sym (append_assoc (written was.front) begun.front (begun.back ++ written left));
      written_are = Appends-trans old mid new _ _ was.written_are begun.written_are;
    })
