-- Reading on: the tokens of the whole are those read so far and those of the rest.
use Rattle.std.proofs.Common.{◌≡◌, ℕ, ◌-◌, ◌<◌, List, [], ◌∷◌, ◌++◌, Option, Some, None, length, append_assoc, append-nil, sym, ap, ◌∙◌, subst, refl, arith}
use Rattle.flow_base.specs.Syntax.{Bytes}
use Rattle.flow_base.specs.declared.token.Token.{Token}
use Rattle.flow_base.specs.declared.token.Word.{Word}
use Rattle.flow_model.specs.Tokens.{front, past_gap, Scans}

-- however the rest goes on, the whole goes on behind the tokens read
abbrev pub GoesOn : (whole : ℕ) (start rest : Bytes) → List Token → Type 0
GoesOn whole start rest read = (ts : List Token) (fault : Option ℕ) → Scans whole rest ts fault → Scans whole start (read ++ ts) fault

pub begins : (whole : ℕ) (start rest : Bytes) (read : List Token) → rest ≡ start → read ≡ [] → GoesOn whole start rest read
begins whole start rest read same none ts fault scans =
    subst (λ l. Scans whole start (l ++ ts) fault) (sym none) (subst (λ l. Scans whole l ts fault) same scans)

pub reads_on : (whole : ℕ) (start rest after rest' : Bytes) (read read' : List Token) (w : Word) → GoesOn whole start rest read → front rest ≡ Some (w, after) → rest' ≡ past_gap after → read' ≡ read ++ (record { word = w; from = whole - length rest; to = whole - length after } ∷ []) → GoesOn whole start rest' read'
reads_on whole start rest after rest' read read' w goes found gap pushed ts fault later =
    let t : Token = record { word = w; from = whole - length rest; to = whole - length after } in
    let next : Scans whole (past_gap after) ts fault = subst (λ l. Scans whole l ts fault) gap later in
    let here : Scans whole start (read ++ (t ∷ ts)) fault = goes (t ∷ ts) fault (after, (found, refl, refl, next)) in
    subst (λ l. Scans whole start l fault) (sym (ap (λ l. l ++ ts) pushed ∙ append_assoc read (t ∷ []) ts)) here

empty : (rest : Bytes) → length rest ≡ 0 → rest ≡ []
empty [] e = refl
empty (b ∷ bs) e = absurd (omega (arith, e))

pub ends : (whole : ℕ) (start rest : Bytes) (read : List Token) → GoesOn whole start rest read → length rest ≡ 0 → Scans whole start read None
ends whole start rest read goes none = subst (λ l. Scans whole start l None) (append-nil read) (goes [] None (empty rest none))

pub stops : (whole : ℕ) (start rest : Bytes) (read : List Token) → GoesOn whole start rest read → 0 < length rest → front rest ≡ None → Scans whole start read (Some (whole - length rest))
stops whole start rest read goes some found =
    subst (λ l. Scans whole start l (Some (whole - length rest))) (append-nil read)
    (goes [] (Some (whole - length rest)) ((λ e. absurd (omega (arith, ap length e, some))), found, refl))
