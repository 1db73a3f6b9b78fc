-- Lines that were answered, where the bytes of the input needn't be known.
use Rattle.std.proofs.Common.{◌≡◌, ℕ, suc, ◌+◌, ◌≤◌, Bool, true, List, [], ◌∷◌, ◌++◌, length, max, Option, Some, None, inl, inr, refl, sym, ap, ◌∙◌, subst, arith, append_assoc, append-nil, length-append}
use Rattle.std.specs.Io.KnownBytes.{Appends}
use Rattle.std.proofs.KnownBytes.{Appends-nil}
use Rattle.flow_base.specs.declared.code.Code.{Code}
use Rattle.flow_base.specs.declared.command.Command.{Command}
use Rattle.flow_base.specs.declared.fault.Fault.{Fault}
use Rattle.flow_model.specs.Apply.{Rules, after}
use Rattle.flow_model.specs.Book.{Book}
use Rattle.flow_model.specs.declared.answer.Stop.{Stop}
use Rattle.flow_lines.specs.Answering.{Part, Lone, Applied, GivenUp, AreParts, IsPart, EndsFull, Gathered, HasFew, HoldsLines, SomeAnswered, StopsAmong, StopsAtSome, StopsBetween, StopsNext, TellsPart, WritesAll, WritesPart, answers_by, book_behind, commands_in, lines_by, lines_in}
use Rattle.flow_lines.specs.Commands.{line_command}
use Rattle.flow_lines.specs.Driving.{answer_status, final_status, written}
use Rattle.flow_lines.specs.Replies.{line_text}
use Rattle.flow_lines.specs.declared.reply.Line.TheVariants as a_line
use Rattle.flow_lines.proofs.Answering.{as_cut, bad_stops, book_on, first_stops, lines-append, lines_on, none_answered, parts_on, status_on, written_on}
use Rattle.flow_lines.proofs.Batches.{holds_first, is_few}

module _ (u : Rules) (given_up : Book → List Command → Code → Type 0) (most : ℕ) where
  -- whatever comes behind them
  few_any : (b : Book) (ps : List Part) (later more : List (List ℕ)) → AreParts u given_up (HasFew most) b ps later → AreParts u given_up (HasFew most) b ps more
  few_any b [] later more h = tt
  few_any b (Lone l ∷ ps) later more h = (h.0, (tt, few_any b ps later more h.1.1))
  few_any b (Applied ls ∷ ps) later more h = (h.0, (h.1.0, few_any (after u b (commands_in ls)) ps later more h.1.1))
  few_any b (GivenUp ls k ∷ ps) later more h = (h.0, (h.1.0, few_any b ps later more h.1.1))

  few_on : (b b1 : Book) (ps qs : List Part) (later : List (List ℕ)) → b1 ≡ book_behind u b ps → AreParts u given_up (HasFew most) b ps [] → AreParts u given_up (HasFew most) b1 qs later → AreParts u given_up (HasFew most) b (ps ++ qs) later
  few_on b b1 ps qs later is f g = parts_on u given_up (HasFew most) b b1 ps qs later is (few_any b ps [] (lines_in qs ++ later) f) g

  module _ (counted : Book → List Part → Type 0) where
    -- nothing is answered yet
    pub some_begin : (b : Book) (out : Option (List ℕ)) → counted b [] → SomeAnswered u given_up counted (HasFew most) b b 0 out out 0
    some_begin b out none = record { parts = []; many = omega arith; parts_are = tt; counted_is = none; book_is = refl; written_are = Appends-nil out; status_is = refl }

    -- and then some more
    pub some_more : (before since : Book → List Part → Type 0) → ((b b1 : Book) (ps qs : List Part) → b1 ≡ book_behind u b ps → before b ps → since b1 qs → counted b (ps ++ qs)) → (b b1 b2 : Book) (least n m k : ℕ) (old new new1 : Option (List ℕ)) → SomeAnswered u given_up before (HasFew most) b b1 least old new n → SomeAnswered u given_up since (HasFew most) b1 b2 1 new new1 m → k ≡ max n m → SomeAnswered u given_up counted (HasFew most) b b2 (least + 1) old new1 k
    some_more before since add b b1 b2 least n m k old new new1 f g is =
        let long : length (lines_in (f.parts ++ g.parts)) ≡ length (lines_in f.parts) + length (lines_in g.parts) = ap length (lines-append f.parts g.parts) ∙ length-append (lines_in f.parts) (lines_in g.parts) in
        let first : least ≤ length (lines_in f.parts) = f.many in
        let later : 1 ≤ length (lines_in g.parts) = g.many in
        record {
          parts = f.parts ++ g.parts;
          many = omega (arith, long, first, later);
          parts_are = few_on b b1 f.parts g.parts [] f.book_is f.parts_are g.parts_are;
          counted_is = add b b1 f.parts g.parts f.book_is f.counted_is g.counted_is;
          book_is = g.book_is ∙ book_on u b b1 f.parts g.parts f.book_is;
          written_are = written_on u b b1 f.parts g.parts old new new1 f.book_is f.written_are g.written_are;
          status_is = status_on u b b1 f.parts g.parts n m k f.book_is f.status_is g.status_is is;
        }

    -- fewer lines are counted
    pub some_fewer : (b b1 : Book) (least less n : ℕ) (old new : Option (List ℕ)) → less ≤ least → SomeAnswered u given_up counted (HasFew most) b b1 least old new n → SomeAnswered u given_up counted (HasFew most) b b1 less old new n
    some_fewer b b1 least less n old new low f =
        let first : least ≤ length (lines_in f.parts) = f.many in
        record { parts = f.parts; many = omega (arith, first, low); parts_are = f.parts_are; counted_is = f.counted_is; book_is = f.book_is; written_are = f.written_are; status_is = f.status_is }

    -- at the end of the input
    pub some_end : (b b1 b2 : Book) (least n : ℕ) (old new new1 : Option (List ℕ)) → b2 ≡ b1 → new1 ≡ new → SomeAnswered u given_up counted (HasFew most) b b1 least old new n → SomeAnswered u given_up counted (HasFew most) b b2 0 old new1 n
    some_end b b1 b2 least n old new new1 same wrote f =
        subst (λ x. SomeAnswered u given_up counted (HasFew most) b x 0 old new1 n) (sym same) (subst (λ o. SomeAnswered u given_up counted (HasFew most) b b1 0 old o n) (sym wrote) (some_fewer b b1 least 0 n old new (omega arith) f))

    -- a line that is no command
    pub some_bad : (b : Book) (old new : Option (List ℕ)) (line : List ℕ) (n : ℕ) → line_command line ≡ None → Appends old new (line_text a_line.Bad ++ 10 ∷ []) → n ≡ answer_status a_line.Bad → ((p : Part) → IsPart given_up b p → counted b (p ∷ [])) → SomeAnswered u given_up counted (HasFew most) b b 1 old new n
    some_bad b old new line n bad adds is one = let long : length (line ∷ []) ≡ 1 = refl in record {
      parts = Lone line ∷ [];
      many = omega (arith, long);
      parts_are = (bad, (tt, tt));
      counted_is = one (Lone line) bad;
      book_is = refl;
      written_are = subst (Appends old new) (sym (append-nil (line_text a_line.Bad ++ 10 ∷ []))) adds;
      status_is = is;
    }

    -- a batch that was begun
    pub some_batch : (b b1 : Book) (c : Command) (commands : List Command) (marks : List Bool) (known left old new : Option (List ℕ)) (n : ℕ) → Gathered (c ∷ []) commands (true ∷ []) marks known left → 1 ≤ length commands → length commands ≤ most → EndsFull most commands marks
        → ((ls : List (List ℕ)) → HoldsLines ls commands marks → TellsPart u given_up b b1 ls (WritesAll old new n)) → (first : List ℕ) → line_command first ≡ Some c → ((p : Part) → IsPart given_up b p → counted b (p ∷ [])) → SomeAnswered u given_up counted (HasFew most) b b1 1 old new n
    some_batch b b1 c commands marks known left old new n g some few last all first given one =
        let holds = holds_first first c commands marks known left g given in
        let its = all (first ∷ g.lines) holds in
        let p = its.part in
        let long : suc (length g.lines) ≡ length (lines_in (p ∷ [])) = ap length (its.lines_are ∙ sym (append-nil (lines_by p))) in
        record {
          parts = p ∷ [];
          many = omega (arith, long);
          parts_are = (its.part_is, (as_cut (HasFew most) p (first ∷ g.lines) [] its.lines_are (is_few most first c commands marks given some few last g.lines [] holds), tt));
          counted_is = one p its.part_is;
          book_is = its.book_is;
          written_are = subst (λ l. Appends old new (written l)) (sym (append-nil (answers_by u b p))) its.told.written_are;
          status_is = its.told.status_is ∙ ap final_status (sym (append-nil (answers_by u b p)));
        }

    -- ---- on an early end

    module _ (stops : Book → List Command → Stop → Type 0) where
      -- the answer to a line that is no command wasn't all written
      pub some_bad_stops : (b : Book) (e : Fault) (old new : Option (List ℕ)) (line : List ℕ) → line_command line ≡ None → WritesPart e old new (line_text a_line.Bad ++ 10 ∷ []) → counted b [] → ((p : Part) → IsPart given_up b p → counted b (p ∷ [])) → StopsAmong u given_up counted stops (HasFew most) b b e old new
      some_bad_stops b e old new line bad w none one = record { whole = line ∷ []; stops_are = bad_stops u given_up counted (HasFew most) stops b e (line ∷ []) [] old new line refl bad w none one }

      -- nothing was answered
      pub none_among : (b : Book) (e : Fault) (out : Option (List ℕ)) → StopsBetween e → counted b [] → StopsAmong u given_up counted stops (HasFew most) b b e out out
      none_among b e out between none = record { whole = []; stops_are = none_answered u given_up counted (HasFew most) stops b e [] out between none }

      -- it ended in a batch that was begun
      pub some_batch_stops : (b b1 : Book) (e : Fault) (c : Command) (commands : List Command) (marks : List Bool) (known left old new : Option (List ℕ)) → Gathered (c ∷ []) commands (true ∷ []) marks known left → 1 ≤ length commands → length commands ≤ most → EndsFull most commands marks
          → ((ls : List (List ℕ)) → HoldsLines ls commands marks → StopsAtSome u given_up stops e b b1 ls old new) → (first : List ℕ) → line_command first ≡ Some c → counted b [] → ((p : Part) → IsPart given_up b p → counted b (p ∷ [])) → StopsAmong u given_up counted stops (HasFew most) b b1 e old new
      some_batch_stops b b1 e c commands marks known left old new g some few last ends first given none one =
          let holds = holds_first first c commands marks known left g given in
          record {
            whole = first ∷ g.lines;
            stops_are =
                first_stops u given_up counted (HasFew most) stops b b1 e (first ∷ g.lines) (first ∷ g.lines) [] old new (sym (append-nil (first ∷ g.lines)))
                (is_few most first c commands marks given some few last g.lines [] holds) (ends (first ∷ g.lines) holds) none one;
          }

      -- what stops the lines behind stops them all
      pub some_stop_later : (before since : Book → List Part → Type 0) → ((b b1 : Book) (ps qs : List Part) → b1 ≡ book_behind u b ps → before b ps → since b1 qs → counted b (ps ++ qs)) → (b b1 b2 : Book) (e : Fault) (least n : ℕ) (old new new1 : Option (List ℕ)) → SomeAnswered u given_up before (HasFew most) b b1 least old new n → StopsAmong u given_up since stops (HasFew most) b1 b2 e new new1 → StopsAmong u given_up counted stops (HasFew most) b b2 e old new1
      some_stop_later before since add b b1 b2 e least n old new new1 f g =
          let w = g.stops_are in
          record {
            whole = lines_in f.parts ++ g.whole;
            stops_are = record {
              parts = f.parts ++ w.parts;
              later = w.later;
              out = w.out;
              lines_are = lines_on (lines_in f.parts ++ g.whole) g.whole w.later f.parts w.parts refl w.lines_are;
              parts_are = few_on b b1 f.parts w.parts w.later f.book_is f.parts_are w.parts_are;
              here = w.here;
              counted_is = subst (counted b) (sym (append_assoc f.parts w.parts w.here)) (add b b1 f.parts (w.parts ++ w.here) f.book_is f.counted_is w.counted_is);
              written_are = written_on u b b1 f.parts w.parts old new w.out f.book_is f.written_are w.written_are;
              ends = subst (λ x. StopsNext u given_up stops (HasFew most) e w.here x b2 w.later w.out new1) (book_on u b b1 f.parts w.parts f.book_is) w.ends;
            };
          }

  -- what was answered before is all that was applied, where nothing has changed since
  pub some_still : {S W : Type 0} (counted : S → Book → List Part → Type 0) (book : S → Book) (contents : W → Option (List ℕ)) (s0 s1 s2 : S) (w0 w1 w2 : W) (least n : ℕ) → s2 ≡ s1 → w2 ≡ w1
      → SomeAnswered u given_up (counted s1) (HasFew most) (book s0) (book s1) least (contents w0) (contents w1) n → SomeAnswered u given_up (counted s2) (HasFew most) (book s0) (book s2) 0 (contents w0) (contents w2) n
  some_still counted book contents s0 s1 s2 w0 w1 w2 least n same wrote f =
      some_end (counted s2) (book s0) (book s1) (book s2) least n (contents w0) (contents w1) (contents w2) (ap book same) (ap contents wrote)
      (subst (λ x. SomeAnswered u given_up (counted x) (HasFew most) (book s0) (book s1) least (contents w0) (contents w1) n) (sym same) f)
