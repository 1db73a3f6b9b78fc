-- Commands one after the other, and what each is answered at its place.
use Rattle.std.proofs.Common.{◌≡◌, ℕ, zero, suc, ◌+◌, ◌-◌, List, [], ◌∷◌, ◌++◌, length, drop, map, refl, sym, ap, ◌∙◌, subst, arith, Option, Some, None, Bool, true, false, ⊎_elim}
use Rattle.std.specs.Prelude.{◌≢◌, slice_get, nat_eq, if◌then◌else◌}
use Rattle.std.proofs.Math.Seq.{drop-append_seam}
use Rattle.std.proofs.lemmas.Bool.Decides.{eqb_tells}
use Rattle.flow_base.specs.declared.command.Command.{Command}
use Rattle.flow_base.specs.declared.command.Reply.{Reply}
use Rattle.flow_model.specs.Book.{Book, nth}
use Rattle.flow_model.specs.Apply.{Rules, outcome, after_one, after, replies}
use Rattle.flow_model.specs.Logs.{AfterCut, RepliesCut, AfterOneMore, RepliesInOrder, Entry, limited, entered, after_entry, entry_reply, after_log, log_replies, AfterOneLimit, RepliesOneLimit, AfterLogCut, LogRepliesCut}
use Rattle.flow_model.specs.World.{Receipt, receipts_from}

pub after_cut : AfterCut
after_cut u b [] m = refl
after_cut u b (c ∷ cs) m = after_cut u (after_one u b c) cs m

pub replies_cut : RepliesCut
replies_cut u b [] m = refl
replies_cut u b (c ∷ cs) m = ap (λ rs. (outcome u b c).reply ∷ rs) (replies_cut u (after_one u b c) cs m)

pub after_one_more : AfterOneMore
after_one_more u b l c = after_cut u b l (c ∷ [])

-- one more command has one more reply
pub replies_one_more : (u : Rules) (b : Book) (l : List Command) (c : Command) → replies u b (l ++ c ∷ []) ≡ replies u b l ++ (outcome u (after u b l) c).reply ∷ []
replies_one_more u b l c = replies_cut u b l (c ∷ [])

pub length-replies : (u : Rules) (b : Book) (l : List Command) → length (replies u b l) ≡ length l
length-replies u b [] = refl
length-replies u b (c ∷ cs) = ap suc (length-replies u (after_one u b c) cs)

-- Logs with limits.

pub after_log_cut : AfterLogCut
after_log_cut u b [] m = refl
after_log_cut u b (e ∷ es) m = after_log_cut u (after_entry u b e) es m

pub log_replies_cut : LogRepliesCut
log_replies_cut u b [] m = refl
log_replies_cut u b (e ∷ es) m = ap (λ rs. entry_reply u b e ∷ rs) (log_replies_cut u (after_entry u b e) es m)

pub length-log_replies : (u : Rules) (b : Book) (l : List Entry) → length (log_replies u b l) ≡ length l
length-log_replies u b [] = refl
length-log_replies u b (e ∷ es) = ap suc (length-log_replies u (after_entry u b e) es)

pub after_one_limit : AfterOneLimit
after_one_limit u n b [] = refl
after_one_limit u n b (c ∷ cs) = after_one_limit u n (after_one (limited u n) b c) cs

pub replies_one_limit : RepliesOneLimit
replies_one_limit u n b [] = refl
replies_one_limit u n b (c ∷ cs) = ap (λ rs. (outcome (limited u n) b c).reply ∷ rs) (replies_one_limit u n (after_one (limited u n) b c) cs)

-- Places.

get_past : {A : Type 0} (xs ys : List A) (m j : ℕ) → m ≡ length xs + j → slice_get (xs ++ ys) m ≡ slice_get ys j
get_past [] ys m j e = let same : m ≡ j = omega (arith, e) in ap (slice_get ys) same
get_past (x ∷ xs) ys zero j e = absurd (omega (arith, e))
get_past (x ∷ xs) ys (suc m) j e = get_past xs ys m j (omega (arith, e))

-- the number of an element and its place
pub nth_at : {A : Type 0} (xs : List A) (n m : ℕ) → n ≡ suc m → nth xs n ≡ slice_get xs m
nth_at {A} xs n m e =
    let less : n - 1 ≡ m = omega (arith, e) in
    let by : Bool → Option A = λ b. if b then None else slice_get xs (n - 1) in
    ⊎_elim (λ (t : (nat_eq n 0 ≡ true) × (n ≡ 0)). absurd (omega (arith, t.1, e)))
    (λ (t : (nat_eq n 0 ≡ false) × (n ≢ 0)). ap by t.0 ∙ ap (slice_get xs) less) (eqb_tells n 0)

-- behind some, the first of the rest has the next number
pub nth_next : {A : Type 0} (xs : List A) (x : A) (more : List A) (n : ℕ) → n ≡ suc (length xs) → nth (xs ++ x ∷ more) n ≡ Some x
nth_next xs x more n e = nth_at (xs ++ x ∷ more) n (length xs) e ∙ get_past xs (x ∷ more) (length xs) 0 (omega arith)

pub replies_in_order : RepliesInOrder
replies_in_order u b l c =
    let n : length l + 1 ≡ suc (length (replies u b l)) = omega (arith, length-replies u b l) in
    subst (λ rs. nth rs (length l + 1) ≡ Some (outcome u (after u b l) c).reply) (sym (replies_one_more u b l c))
    (nth_next (replies u b l) (outcome u (after u b l) c).reply [] (length l + 1) n)

-- receipts have the commands and the replies that they were made of
pub receipts_reply : (opening place : ℕ) (u : Rules) (b : Book) (l : List Command) → map (λ (r : Receipt). r.reply) (receipts_from opening place l (replies u b l)) ≡ replies u b l
receipts_reply opening place u b [] = refl
receipts_reply opening place u b (c ∷ cs) = ap (λ rs. (outcome u b c).reply ∷ rs) (receipts_reply opening (suc place) u (after_one u b c) cs)

pub receipts_command : (opening place : ℕ) (u : Rules) (b : Book) (l : List Command) → map (λ (r : Receipt). r.command) (receipts_from opening place l (replies u b l)) ≡ l
receipts_command opening place u b [] = refl
receipts_command opening place u b (c ∷ cs) = ap (λ cs. c ∷ cs) (receipts_command opening (suc place) u (after_one u b c) cs)

-- each stands at its place
pub receipt_at : (opening place : ℕ) (cs : List Command) (rs : List Reply) (i : ℕ) (r : Receipt) → slice_get (receipts_from opening place cs rs) i ≡ Some r → (r.opening ≡ opening) × (r.place ≡ place + i) × (slice_get cs i ≡ Some r.command) × (slice_get rs i ≡ Some r.reply)
receipt_at opening place [] rs i r e = absurd (cc e)
receipt_at opening place (c ∷ cs) [] i r e = absurd (cc e)
receipt_at opening place (c ∷ cs) (x ∷ rs) zero r e =
    let made : Receipt = record { opening = opening; place = place; command = c; reply = x } in
    let same : made ≡ r = cc e in
    let at : r.place ≡ place = sym (ap (λ (y : Receipt). y.place) same) in (
      sym (ap (λ (y : Receipt). y.opening) same),
      omega (arith, at),
      ap (λ (y : Receipt). Some y.command) same,
      ap (λ (y : Receipt). Some y.reply) same,
    )
receipt_at opening place (c ∷ cs) (x ∷ rs) (suc i) r e =
    let later = receipt_at opening (suc place) cs rs i r e in
    (later.0, omega (arith, later.1), later.2, later.3)

-- what a further batch is answered, behind what was answered before
pub replies_behind : (u : Rules) (b : Book) (l m : List Command) → drop (length l) (replies u b (l ++ m)) ≡ replies u (after u b l) m
replies_behind u b l m =
    subst (λ n. drop n (replies u b (l ++ m)) ≡ replies u (after u b l) m) (length-replies u b l)
    (ap (drop (length (replies u b l))) (replies_cut u b l m) ∙ drop-append_seam (replies u b l) (replies u (after u b l) m))

-- where all before it is published, the receipts of a batch are those of its commands and their replies
pub receipts_of_batch : (u : Rules) (b : Book) (opening n : ℕ) (l m : List Command) → n ≡ length l → receipts_from opening (suc (n - opening)) (drop n (l ++ m)) (drop n (replies u b (l ++ m))) ≡ receipts_from opening (suc (length l - opening)) m (replies u (after u b l) m)
receipts_of_batch u b opening n l m e =
    ap (λ k. receipts_from opening (suc (k - opening)) (drop k (l ++ m)) (drop k (replies u b (l ++ m)))) e
    ∙ ap (λ cs. receipts_from opening (suc (length l - opening)) cs (drop (length l) (replies u b (l ++ m)))) (drop-append_seam l m)
    ∙ ap (receipts_from opening (suc (length l - opening)) m) (replies_behind u b l m)
