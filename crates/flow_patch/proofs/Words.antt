-- A wrap in its own words is what taking the new patches out tells.
use Rattle.std.proofs.Common.{◌≡◌, List, [], ◌∷◌, ◌++◌, map, refl, sym, ap, ◌∙◌, subst, Bool, true, false, ⊎_elim, inl, inr}
use Rattle.std.specs.Prelude.{not}
use Rattle.flow_base.specs.Syntax.{Bytes, Statement, Let, Assign, Call, WaitSignal, WaitSignalFor, Sleep, If, While, Parallel, Patch, Deprecate, Return, FailWith, Continue, Block, End, Next, Otherwise, NoElse, Else, Branches, NoBranch, Branch, Declared, Activity, Signal, Program, activities_of, signals_of}
use Rattle.flow_base.specs.Bare.{bare_expression, bare_retry, bare_statement, bare_block, bare_otherwise, bare_branches, bare_type, bare_declared}
use Rattle.flow_base.specs.declared.syntax.TypeAt.{TypeAt}
use Rattle.flow_model.specs.WellFormed.{WellFormed}
use Rattle.flow_patch.specs.Wrap.{joined, placed, plain, changed_otherwise, changed_branches, without_new, From, Wraps, SameElse, SameBranches, new_in, Wrap, WrapIsComputed, WrappedStands, WrappedNeverFails}
use Rattle.flow_model.proofs.Chains.{not_both}
use Rattle.flow_patch.proofs.Normal.{cases}
use Rattle.flow_patch.proofs.Calls.{own_body}
use Rattle.flow_patch.proofs.Law.{Change, change_stands}

-- what is wrapped is plain once the new patches are out
mutual
  from_plain : (f : Bytes → Bool) (b : Block) (s : Statement) (b' : Block) → ((k : Block) → Wraps f k (bare_block b') → k ≡ plain f b') → From f b (bare_statement s) (λ k. Wraps f k (bare_block b')) → b ≡ placed (without_new f) s (plain f b')
  from_plain f b (Call at x activity_at a es r o') b' h w =
      w.1.1.0 ∙ ap (λ o. Next (Call 0 x 0 a (map bare_expression es) (bare_retry r) o) w.1.0) (else_plain f w.0 o' w.1.1.1)
      ∙ ap (Next (Call 0 x 0 a (map bare_expression es) (bare_retry r) (changed_otherwise (without_new f) o'))) (h w.1.0 w.1.1.2)
  from_plain f b (WaitSignalFor at x signal_at n e c' end) b' h w =
      w.1.1.0 ∙ ap (λ c. Next (WaitSignalFor 0 x 0 n (bare_expression e) c 0) w.1.0) (wraps_plain f w.0 c' w.1.1.1)
      ∙ ap (Next (WaitSignalFor 0 x 0 n (bare_expression e) (plain f c') 0)) (h w.1.0 w.1.1.2)
  from_plain f b (If at e c' c_end d' d_end) b' h w =
      w.1.1.1.0 ∙ ap (λ c. Next (If 0 (bare_expression e) c 0 w.1.0 0) w.1.1.0) (wraps_plain f w.0 c' w.1.1.1.1)
      ∙ ap (λ d. Next (If 0 (bare_expression e) (plain f c') 0 d 0) w.1.1.0) (wraps_plain f w.1.0 d' w.1.1.1.2)
      ∙ ap (Next (If 0 (bare_expression e) (plain f c') 0 (plain f d') 0)) (h w.1.1.0 w.1.1.1.3)
  from_plain f b (While at e c' end) b' h w =
      w.1.1.0 ∙ ap (λ c. Next (While 0 (bare_expression e) c 0) w.1.0) (wraps_plain f w.0 c' w.1.1.1)
      ∙ ap (Next (While 0 (bare_expression e) (plain f c') 0)) (h w.1.0 w.1.1.2)
  from_plain f b (Parallel at bs' end) b' h w =
      w.1.1.0 ∙ ap (λ c. Next (Parallel 0 c 0) w.1.0) (branches_plain f w.0 bs' w.1.1.1)
      ∙ ap (Next (Parallel 0 (changed_branches (without_new f) bs') 0)) (h w.1.0 w.1.1.2)
  from_plain f b (Patch at id_at id c' c_end d' d_end) b' h (inl w) =
      rw (w.0) (w.1.1.1.0 ∙ ap (λ d. joined d w.1.1.0) (wraps_plain f w.1.0 d' w.1.1.1.1) ∙ ap (joined (plain f d')) (h w.1.1.0 w.1.1.1.2))
  from_plain f b (Patch at id_at id c' c_end d' d_end) b' h (inr w) =
      rw (w.0) (w.1.1.1.1.0 ∙ ap (λ c. Next (Patch 0 0 id c 0 w.1.1.0 0) w.1.1.1.0) (wraps_plain f w.1.0 c' w.1.1.1.1.1)
      ∙ ap (λ d. Next (Patch 0 0 id (plain f c') 0 d 0) w.1.1.1.0) (wraps_plain f w.1.1.0 d' w.1.1.1.1.2)
      ∙ ap (Next (Patch 0 0 id (plain f c') 0 (plain f d') 0)) (h w.1.1.1.0 w.1.1.1.1.3))
  from_plain f b (Deprecate at id_at id) b' h (inl w) = rw (w.0) (h b w.1)
  from_plain f b (Deprecate at id_at id) b' h (inr w) = rw (w.0) (w.1.1.0 ∙ ap (Next (Deprecate 0 0 id)) (h w.1.0 w.1.1.1))
  from_plain f b (Let at name_at x e) b' h w = w.1.0 ∙ ap (Next (Let 0 0 x (bare_expression e))) (h w.0 w.1.1)
  from_plain f b (Assign at x e) b' h w = w.1.0 ∙ ap (Next (Assign 0 x (bare_expression e))) (h w.0 w.1.1)
  from_plain f b (WaitSignal at x signal_at n) b' h w = w.1.0 ∙ ap (Next (WaitSignal 0 x 0 n)) (h w.0 w.1.1)
  from_plain f b (Sleep at e) b' h w = w.1.0 ∙ ap (Next (Sleep 0 (bare_expression e))) (h w.0 w.1.1)
  from_plain f b (Return at e) b' h w = w.1.0 ∙ ap (Next (Return 0 (bare_expression e))) (h w.0 w.1.1)
  from_plain f b (FailWith at e) b' h w = w.1.0 ∙ ap (Next (FailWith 0 (bare_expression e))) (h w.0 w.1.1)
  from_plain f b (Continue at es) b' h w = w.1.0 ∙ ap (Next (Continue 0 (map bare_expression es))) (h w.0 w.1.1)

  pub wraps_plain : (f : Bytes → Bool) (b b' : Block) → Wraps f b (bare_block b') → b ≡ plain f b'
  wraps_plain f b End w = w
  wraps_plain f b (Next s b') w = from_plain f b s b' (λ k x. wraps_plain f k b' x) w

  else_plain : (f : Bytes → Bool) (o o' : Otherwise) → SameElse f o (bare_otherwise o') → o ≡ changed_otherwise (without_new f) o'
  else_plain f o NoElse w = w
  else_plain f o (Else c' end) w = w.1.0 ∙ ap (λ c. Else c 0) (wraps_plain f w.0 c' w.1.1)

  branches_plain : (f : Bytes → Bool) (bs bs' : Branches) → SameBranches f bs (bare_branches bs') → bs ≡ changed_branches (without_new f) bs'
  branches_plain f bs NoBranch w = w
  branches_plain f bs (Branch at c' end bs') w =
      w.1.1.0 ∙ ap (λ c. Branch 0 c 0 w.1.0) (wraps_plain f w.0 c' w.1.1.1) ∙ ap (Branch 0 (plain f c') 0) (branches_plain f w.1.0 bs' w.1.1.2)

-- and the plain form is wrapped
mutual
  plain_from : (f : Bytes → Bool) (s : Statement) (b' : Block) → Wraps f (plain f b') (bare_block b') → From f (placed (without_new f) s (plain f b')) (bare_statement s) (λ k. Wraps f k (bare_block b'))
  plain_from f (Call at x activity_at a es r o) b' w = (changed_otherwise (without_new f) o, (plain f b', (refl, plain_else f o, w)))
  plain_from f (WaitSignalFor at x signal_at n e c end) b' w = (plain f c, (plain f b', (refl, plain_wraps f c, w)))
  plain_from f (If at e c c_end d d_end) b' w = (plain f c, (plain f d, (plain f b', (refl, plain_wraps f c, plain_wraps f d, w))))
  plain_from f (While at e c end) b' w = (plain f c, (plain f b', (refl, plain_wraps f c, w)))
  plain_from f (Parallel at bs end) b' w = (changed_branches (without_new f) bs, (plain f b', (refl, plain_sides f bs, w)))
  plain_from f (Patch at id_at id c c_end d d_end) b' w =
      ⊎_elim (λ (e : f id ≡ true). inl (e, (plain f d, (plain f b', (rw e, plain_wraps f d, w)))))
      (λ (e : f id ≡ false). inr (e, (plain f c, (plain f d, (plain f b', (rw e, plain_wraps f c, plain_wraps f d, w)))))) (cases (f id))
  plain_from f (Deprecate at id_at id) b' w =
      ⊎_elim (λ (e : f id ≡ true). inl (e, rw e w)) (λ (e : f id ≡ false). inr (e, (plain f b', (rw e, w)))) (cases (f id))
  plain_from f (Let at name_at x e) b' w = (plain f b', (refl, w))
  plain_from f (Assign at x e) b' w = (plain f b', (refl, w))
  plain_from f (WaitSignal at x signal_at n) b' w = (plain f b', (refl, w))
  plain_from f (Sleep at e) b' w = (plain f b', (refl, w))
  plain_from f (Return at e) b' w = (plain f b', (refl, w))
  plain_from f (FailWith at e) b' w = (plain f b', (refl, w))
  plain_from f (Continue at es) b' w = (plain f b', (refl, w))

  pub plain_wraps : (f : Bytes → Bool) (b' : Block) → Wraps f (plain f b') (bare_block b')
  plain_wraps f End = refl
  plain_wraps f (Next s b') = plain_from f s b' (plain_wraps f b')

  plain_else : (f : Bytes → Bool) (o : Otherwise) → SameElse f (changed_otherwise (without_new f) o) (bare_otherwise o)
  plain_else f NoElse = refl
  plain_else f (Else c end) = (plain f c, (refl, plain_wraps f c))

  plain_sides : (f : Bytes → Bool) (bs : Branches) → SameBranches f (changed_branches (without_new f) bs) (bare_branches bs)
  plain_sides f NoBranch = refl
  plain_sides f (Branch at c end bs) = (plain f c, (changed_branches (without_new f) bs, (refl, plain_wraps f c, plain_sides f bs)))

pub wrap_is_computed : WrapIsComputed
wrap_is_computed f b b' = ((λ w. wraps_plain f (bare_block b) b' w), (λ e. subst (λ x. Wraps f x (bare_block b')) (sym e) (plain_wraps f b')))

bare_kinds : (ts : List TypeAt) → map (λ (t : TypeAt). t.kind) (map bare_type ts) ≡ map (λ (t : TypeAt). t.kind) ts
bare_kinds [] = refl
bare_kinds (t ∷ ts) = ap (λ ks. t.kind ∷ ks) (bare_kinds ts)

pub bare_activities : (ds : List Declared) → activities_of (map bare_declared ds) ≡ activities_of ds
bare_activities [] = refl
bare_activities (Activity at name_at name takes gives ∷ ds) =
    ap (λ ks. record { name = name; takes = ks; gives = gives } ∷ activities_of (map bare_declared ds)) (bare_kinds takes)
    ∙ ap (λ more. record { name = name; takes = map (λ (t : TypeAt). t.kind) takes; gives = gives } ∷ more) (bare_activities ds)
bare_activities (Signal at name_at name carries ∷ ds) = bare_activities ds

pub bare_signals : (ds : List Declared) → signals_of (map bare_declared ds) ≡ signals_of ds
bare_signals [] = refl
bare_signals (Activity at name_at name takes gives ∷ ds) = bare_signals ds
bare_signals (Signal at name_at name carries ∷ ds) = ap (λ more. (name, carries) ∷ more) (bare_signals ds)

more_activities : (ds more : List Declared) → activities_of (ds ++ more) ≡ activities_of ds ++ activities_of more
more_activities [] more = refl
more_activities (Activity at name_at name takes gives ∷ ds) more =
    ap (λ rest. record { name = name; takes = map (λ (t : TypeAt). t.kind) takes; gives = gives } ∷ rest) (more_activities ds more)
more_activities (Signal at name_at name carries ∷ ds) more = more_activities ds more

more_signals : (ds more : List Declared) → signals_of (ds ++ more) ≡ signals_of ds ++ signals_of more
more_signals [] more = refl
more_signals (Activity at name_at name takes gives ∷ ds) more = more_signals ds more
more_signals (Signal at name_at name carries ∷ ds) more = ap (λ rest. (name, carries) ∷ rest) (more_signals ds more)

change_of : (p p' : Program) → WellFormed p → Wrap p p' → Change p p'
change_of p p' c w =
    record {
      parameters = w.parameters;
      more_activities = activities_of w.more;
      activities = sym (bare_activities p'.declarations) ∙ ap activities_of w.declarations ∙ more_activities (map bare_declared p.declarations) w.more
          ∙ ap (λ acts. acts ++ activities_of w.more) (bare_activities p.declarations);
      more_signals = signals_of w.more;
      signals = sym (bare_signals p'.declarations) ∙ ap signals_of w.declarations ∙ more_signals (map bare_declared p.declarations) w.more
          ∙ ap (λ ss. ss ++ signals_of w.more) (bare_signals p.declarations);
      is_new = new_in p;
      own = own_body (new_in p) p (λ i y. ap not y) c;
      body = sym (wraps_plain (new_in p) (bare_block p.body) p'.body w.body);
    }

pub wrapped_stands : WrappedStands
wrapped_stands p p' h k c w s = change_stands p p' h k (change_of p p' c w) s

pub wrapped_never_fails : WrappedNeverFails
wrapped_never_fails p p' h k place w c wrap s m =
    let there = wrapped_stands p p' h k c wrap s in not_both p' h there.0 place w m there.1.0
