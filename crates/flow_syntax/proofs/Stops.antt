-- Where the machine stops, the tokens before are the beginning of a program, and no program begins with them and the next one.
use Rattle.std.proofs.Common.{◌≡◌, ◌∙◌, ℕ, pos, suc, inl, ◌≤◌, Bool, true, false, cond, List, [], ◌∷◌, ◌++◌, Option, Some, None, refl, ap, sym, subst, append_assoc, length, ◌-◌, drop, length-append, arith}
use Rattle.std.proofs.lemmas.List.{append-nil}
use Rattle.std.proofs.Math.Seq.{drop-append_seam}
use Rattle.flow_base.specs.Syntax as tree
use Rattle.flow_base.specs.declared.value.Kind.TheVariants as kind
use Rattle.flow_model.specs.Lexeme.{Lexeme}
use Rattle.flow_model.specs.Grammar.{parens, name, prim, term, no_factor, sum, no_term, compare, no_side, plain, conj, no_and, expr, no_or, no_argument, last_argument, typed, no_type, last_type, parameter, no_parameter, last_parameter, activity, no_else, no_retry, for_ever, value, no_branch, return_, no_statement, without, statements, ProgramReading, workflow, program_tokens, Reads, Begins, Stops}
use Rattle.flow_syntax.specs.Machine.{Symbol, takes, may_be_nothing, step, step_by, is_done, fault, fault_by}
use Rattle.flow_syntax.specs.Machine as m
use Rattle.flow_syntax.specs.Parsing.{place_of}
use Rattle.flow_syntax.proofs.Sound.{Reading, spelled, Readings, all_spelled, Comes, comes, split}
use Rattle.flow_syntax.proofs.Complete.{through_program}

nothing : (s : Symbol) → may_be_nothing s ≡ true → (r : Reading s) × (spelled s r ≡ [])
nothing m.more_term h = (no_factor, refl)
nothing m.more_sum h = (no_term, refl)
nothing m.more_compare h = (no_side, refl)
nothing m.more_conj h = (no_and, refl)
nothing m.more_expr h = (no_or, refl)
nothing _ h = absurd (cc)

-- a short reading of each symbol
least_sum : Reading m.sum
least_sum = sum (term (prim (name 0 [])) no_factor) no_term

least_expr : Reading m.expr
least_expr = expr (conj (plain (compare least_sum no_side)) no_and) no_or

least : (s : Symbol) → Reading s
least m.name = (0, [])
least m.number = (0, pos 0)
least (m.sign k) = 0
least m.parens = parens 0 least_expr 0
least m.prim = name 0 []
least m.unary = prim (name 0 [])
least m.term = term (prim (name 0 [])) no_factor
least m.sum = least_sum
least m.compare = compare least_sum no_side
least m.neg = plain (compare least_sum no_side)
least m.conj = conj (plain (compare least_sum no_side)) no_and
least m.expr = least_expr
least m.more_term = no_factor
least m.more_sum = no_term
least m.more_compare = no_side
least m.more_conj = no_and
least m.more_expr = no_or
least m.arguments = no_argument 0
least m.more_arguments = last_argument 0
least m.type_ = typed 0 kind.Int
least m.types = no_type 0
least m.more_types = last_type 0
least m.parameter = parameter 0 [] 0 (typed 0 kind.Int)
least m.parameters = no_parameter 0
least m.more_parameters = last_parameter 0
least m.declaration = activity 0 0 [] 0 (no_type 0) 0 (typed 0 kind.Int) 0
least m.else_tail = no_else 0
least m.call_tail = no_retry (no_else 0)
least m.wait_tail = for_ever 0
least m.side = value least_expr 0
least m.more_branches = no_branch 0
least m.statement = return_ 0 least_expr 0
least (m.after_name x) = inl (0, value least_expr 0)
least m.patch_id = (0, 0 ∷ [], refl)
least m.statements = no_statement 0
least m.after_choice = without (no_statement 0)
least m.body = statements (no_statement 0)
least m.program = workflow 0 0 [] 0 (no_parameter 0) 0 (statements (no_statement 0))

all_least : (owed : List Symbol) → Readings owed
all_least [] = tt
all_least (s ∷ owed) = (least s, all_least owed)

-- a token, and then readings of what is owed after it, are readings of what was owed before
abbrev Back : Lexeme → List Symbol → Option (List Symbol) → Type 0
Back t owed None = Unit {0}
Back t owed (Some after) = (rs : Readings after) → (q : Readings owed) × (all_spelled owed q ≡ t ∷ all_spelled after rs)

back_by : (t : Lexeme) (s : Symbol) (owed : List Symbol) (o : Option (List Symbol)) → Comes s t o → (b : Bool) → (b ≡ true → (r : Reading s) × (spelled s r ≡ [])) → (st : Option (List Symbol)) → Back t owed st → Back t (s ∷ owed) (step_by o b owed st)
back_by t s owed (Some now) c b e st h = λ rs.
    let p = split now owed rs in
    let r = c p.0 in
    ((r.0, p.1), ap (λ x. x ++ all_spelled owed p.1) r.1 ∙ ap (λ x. t ∷ x) p.2)
back_by t s owed None c true e (Some after) h = λ rs.
    let r = e refl in
    let q = h rs in
    ((r.0, q.0), ap (λ x. x ++ all_spelled owed q.0) r.1 ∙ q.1)
back_by t s owed None c true e None h = tt
back_by t s owed None c false e st h = tt

back : (t : Lexeme) (owed : List Symbol) → Back t owed (step t.word owed)
back t [] = tt
back t (s ∷ owed) = back_by t s owed (takes s t.word) (comes s t.at t.word) (may_be_nothing s) (nothing s) (step t.word owed) (back t owed)

abbrev Refuses : List Symbol → List Lexeme → List Lexeme → Type 0
Refuses owed before [] = fault owed before ≡ Some 0
Refuses owed before (t ∷ after) = (x : List Lexeme) → fault owed (before ++ (t ∷ x)) ≡ Some (suc (length x))

abbrev IsStop : List Symbol → List Lexeme → Option ℕ → Type 0
IsStop owed ts None = (q : Readings owed) × (all_spelled owed q ≡ ts)
IsStop owed ts (Some n) = (before : List Lexeme) × (after : List Lexeme) × (ts ≡ before ++ after) × (length after ≡ n) × (more : List Lexeme) × (q : Readings owed) × (all_spelled owed q ≡ before ++ more) × Refuses owed before after

refuses_later : (t : Lexeme) (owed rest : List Symbol) → step t.word owed ≡ Some rest → (before after : List Lexeme) → Refuses rest before after → Refuses owed (t ∷ before) after
refuses_later t owed rest e before [] h = rw e h
refuses_later t owed rest e before (u ∷ after) h = λ x. rw e (h x)

stop_later : (t : Lexeme) (owed rest : List Symbol) (ts : List Lexeme) → step t.word owed ≡ Some rest → Back t owed (Some rest) → (n : Option ℕ) → IsStop rest ts n → IsStop owed (t ∷ ts) n
stop_later t owed rest ts e b None h = let q = b h.0 in (q.0, q.1 ∙ ap (λ x. t ∷ x) h.1)
stop_later t owed rest ts e b (Some n) h =
    let q = b h.5 in
    (t ∷ h.0, h.1, ap (λ x. t ∷ x) h.2, h.3, h.4, q.0, q.1 ∙ ap (λ x. t ∷ x) h.6, refuses_later t owed rest e h.0 h.1 h.7)

stop_here : (t : Lexeme) (owed : List Symbol) (ts : List Lexeme) (o : Option (List Symbol)) → step t.word owed ≡ o → Back t owed o → ((rest : List Symbol) → IsStop rest ts (fault rest ts)) → IsStop owed (t ∷ ts) (fault_by (suc (length ts)) o (λ rest. fault rest ts))
stop_here t owed ts None e b ih = ([], t ∷ ts, refl, refl, all_spelled owed (all_least owed), all_least owed, refl, λ x. rw e refl)
stop_here t owed ts (Some rest) e b ih = stop_later t owed rest ts e b (fault rest ts) (ih rest)

both_true : (a b : Bool) → cond a b false ≡ true → (a ≡ true) × (b ≡ true)
both_true true b h = (refl, h)
both_true false b h = absurd (cc)

all_nothing : (owed : List Symbol) → is_done owed ≡ true → (q : Readings owed) × (all_spelled owed q ≡ [])
all_nothing [] h = (tt, refl)
all_nothing (s ∷ owed) h =
    let p = both_true (may_be_nothing s) (is_done owed) h in
    let r = nothing s p.0 in
    let q = all_nothing owed p.1 in
    ((r.0, q.0), ap (λ x. x ++ all_spelled owed q.0) r.1 ∙ q.1)

stop_end : (owed : List Symbol) (b : Bool) → is_done owed ≡ b → IsStop owed [] (cond b None (Some 0))
stop_end owed true e = all_nothing owed e
stop_end owed false e = ([], [], refl, refl, all_spelled owed (all_least owed), all_least owed, refl, rw e refl)

stops : (owed : List Symbol) (ts : List Lexeme) → IsStop owed ts (fault owed ts)
stops owed [] = stop_end owed (is_done owed) refl
stops owed (t ∷ ts) = stop_here t owed ts (step t.word owed) refl (back t owed) (λ rest. stops rest ts)

no_reading : (ts before after : List Lexeme) (end : ℕ) → Refuses (m.program ∷ []) before after → Stops before after end (place_of end after)
no_reading ts before [] end h = (λ p r. let e = ap (fault (m.program ∷ [])) r.1 ∙ h in let f = through_program r.0 in absurd (cc), refl)
no_reading ts before (t ∷ after) end h = (λ r. let e = ap (fault (m.program ∷ [])) (r.2 ∙ append_assoc before (t ∷ []) r.1) ∙ h r.1 in let f = through_program r.0 in absurd (cc), refl)

abbrev Bad : List Lexeme → ℕ → Option ℕ → Type 0
Bad ts end None = Unit {0}
Bad ts end (Some n) = (before : List Lexeme) × (after : List Lexeme) × (ts ≡ before ++ after) × (length after ≡ n) × Begins before × Stops before after end (place_of end after)

bad_of : (ts : List Lexeme) (end : ℕ) (n : Option ℕ) → IsStop (m.program ∷ []) ts n → Bad ts end n
bad_of ts end None h = tt
bad_of ts end (Some n) h = (h.0, h.1, h.2, h.3, (h.5.0, h.4, sym (append-nil (program_tokens h.5.0)) ∙ h.6), no_reading ts h.0 h.1 end h.7)

bad : (ts : List Lexeme) (end n : ℕ) → fault (m.program ∷ []) ts ≡ Some n → Bad ts end (Some n)
bad ts end n e = subst (Bad ts end) e (bad_of ts end (fault (m.program ∷ []) ts) (stops (m.program ∷ []) ts))

pub left_bound : (ts : List Lexeme) (n : ℕ) → fault (m.program ∷ []) ts ≡ Some n → n ≤ length ts
left_bound ts n e = let b = bad ts 0 n e in omega (arith, b.3, ap length b.2, length-append b.0 b.1)

rest_of : (before after : List Lexeme) → drop (length (before ++ after) - length after) (before ++ after) ≡ after
rest_of before after = let e : length (before ++ after) - length after ≡ length before = omega (arith, length-append before after) in rw e (drop-append_seam before after)

rest_is : (ts before after : List Lexeme) (n : ℕ) → ts ≡ before ++ after → length after ≡ n → drop (length ts - n) ts ≡ after
rest_is ts before after n h k = rw (h, ← k) (rest_of before after)

-- where the machine stops, a program begins so far, and goes no further
pub first_bad : (ts : List Lexeme) (end n : ℕ) → fault (m.program ∷ []) ts ≡ Some n → (before : List Lexeme) × (after : List Lexeme) × (ts ≡ before ++ after) × (length after ≡ n) × Begins before × Stops before after end (place_of end (drop (length ts - n) ts)) × (drop (length ts - n) ts ≡ after)
first_bad ts end n e =
    let b = bad ts end n e in
    let r : drop (length ts - n) ts ≡ b.1 = rest_is ts b.0 b.1 n b.2 b.3 in
    (b.0, b.1, b.2, b.3, b.4, rw r b.5, r)

-- tokens of a program are no fault
pub no_fault : (ts : List Lexeme) (p : tree.Program) (n : ℕ) → Reads ts p → fault (m.program ∷ []) ts ≡ Some n → ⊥
no_fault ts p n r e = let f = through_program r.0 in let g = ap (fault (m.program ∷ [])) r.1 in absurd (cc)

abbrev Accepted : List Lexeme → Option ℕ → Type 0
Accepted ts None = (r : ProgramReading) × (program_tokens r ≡ ts)
Accepted ts (Some n) = Unit {0}

accepted_of : (ts : List Lexeme) (n : Option ℕ) → IsStop (m.program ∷ []) ts n → Accepted ts n
accepted_of ts None h = (h.0.0, sym (append-nil (program_tokens h.0.0)) ∙ h.1)
accepted_of ts (Some n) h = tt

-- what the machine goes through is a program
pub accepted : (ts : List Lexeme) → fault (m.program ∷ []) ts ≡ None → (r : ProgramReading) × (program_tokens r ≡ ts)
accepted ts e = subst (Accepted ts) e (accepted_of ts (fault (m.program ∷ []) ts) (stops (m.program ∷ []) ts))
