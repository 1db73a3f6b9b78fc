-- The lines of open runs, one after the other and page by page.
use Rattle.std.proofs.Common.{◌≡◌, ℕ, List, [], ◌∷◌, ◌++◌, map, take, drop, ◌+◌, ◌<◌, ◌≤◌, ◌^◌, Option, Some, None, refl, sym, ap, ◌∙◌, subst, append_assoc, append-nil, take-append-drop, arith}
use Rattle.std.proofs.lemmas.List.{map-append}
use Rattle.std.specs.Io.KnownBytes.{Appends}
use Rattle.std.proofs.KnownBytes.{Appends-nil, Appends-trans}
use Rattle.flow_base.specs.declared.book.Run.{Run}
use Rattle.flow_base.specs.declared.code.Code.{Code}
use Rattle.flow_base.specs.declared.code.Code.TheVariants as code
use Rattle.flow_base.specs.declared.command.Command.{Command}
use Rattle.flow_base.specs.declared.command.Command.TheVariants as command
use Rattle.flow_base.specs.declared.command.OpenRun.{OpenRun}
use Rattle.flow_base.specs.declared.command.Reply.{Reply}
use Rattle.flow_base.specs.declared.command.Reply.TheVariants as reply
use Rattle.flow_base.specs.declared.fault.Fault.{Fault}
use Rattle.flow_base.specs.declared.fault.Fault.TheVariants as fault
use Rattle.flow_model.specs.Apply.{Rules, outcome, list_open, open_run_told}
use Rattle.flow_model.specs.Book.{Book, open_runs}
use Rattle.flow_model.specs.Answers.{Answers}
use Rattle.flow_model.specs.declared.answer.Answer.TheVariants as answer
use Rattle.flow_model.specs.declared.answer.Stop.{Stop}
use Rattle.flow_lines.specs.Driving.{WritesBeginning}
use Rattle.flow_cli.specs.Histories.{CausedUntold, CausedUnwritten}
use Rattle.flow_cli.specs.Listings.{listing_written, runs_written, open_lines, page_lines, next_open, TellsOpen, ListsPage, TellsPage, IsUnlisted}
use Rattle.flow_lines.specs.Replies.{open_run_text}
use Rattle.flow_cli.proofs.LinesWritten.{lines_joined}
use Rattle.flow_cli.proofs.OpenPages.{behind, none_behind}

---- One question

-- no other reply is given to it
list_is_told : (u : Rules) (b : Book) (from most : ℕ)
    → (outcome u b (command.Open from most)).reply ≡ reply.Open (map (open_run_told u.program_of b) (take most (open_runs b from))) (next_open b from most)
unfolding outcome list_open
list_is_told u b from most = refl

abbrev runs_in : Reply → List OpenRun
runs_in (reply.Open rs next) = rs
runs_in r = []

abbrev next_in : Reply → Option ℕ
next_in (reply.Open rs next) = next
next_in r = None

book_kept : (u : Rules) (b b1 : Book) (from most : ℕ) (r : Reply) → Answers u b b1 (command.Open from most) (answer.Replied r) → b1 ≡ b
unfolding outcome list_open
book_kept u b b1 from most r told = told.1

pub page_listed : (u : Rules) (b b1 : Book) (from most : ℕ) (r : Reply) (runs : List OpenRun) (next : Option ℕ) → r ≡ reply.Open runs next → Answers u b b1 (command.Open from most) (answer.Replied r) → ListsPage u b b1 from most runs next
page_listed u b b1 from most r runs next is told =
    let so : reply.Open runs next ≡ reply.Open (map (open_run_told u.program_of b) (take most (open_runs b from))) (next_open b from most) = sym is ∙ told.0 ∙ list_is_told u b from most in
    record { same = book_kept u b b1 from most r told; runs_are = ap runs_in so; next_is = ap next_in so }

pub always_listed : {A : Type 0} (u : Rules) (b b1 : Book) (from most : ℕ) (r : Reply) → IsUnlisted r → Answers u b b1 (command.Open from most) (answer.Replied r) → A
always_listed u b b1 from most r unlisted told = absurd (subst IsUnlisted (told.0 ∙ list_is_told u b from most) unlisted)

pub unlisted_caused : (u : Rules) (b b1 : Book) (from most : ℕ) (r : Reply) (f : Fault) (given sure : Type 0) (stops : Stop → Type 0) → IsUnlisted r → f ≡ fault.StoreRefused → (sure → Answers u b b1 (command.Open from most) (answer.Replied r)) → CausedUntold f ⊥ (sure → given) stops
unlisted_caused u b b1 from most r f given sure stops unlisted is told =
    subst (λ x. CausedUntold x ⊥ (sure → given) stops) (sym is) (λ s. always_listed u b b1 from most r unlisted (told s))

---- One page

pub page_told : (u : Rules) (b b1 : Book) (from most : ℕ) (runs : List OpenRun) (next : Option ℕ) (old new : Option (List ℕ)) → ListsPage u b b1 from most runs next → Appends old new (listing_written runs) → TellsPage u b b1 from most next old new
page_told u b b1 from most runs next old new lists adds =
    record { same = lists.same; written_are = subst (λ (rs : List OpenRun). Appends old new (listing_written rs)) lists.runs_are adds; next_is = lists.next_is }

pub page_begun : (u : Rules) (b b1 : Book) (from most : ℕ) (runs : List OpenRun) (next : Option ℕ) (old new : Option (List ℕ)) → ListsPage u b b1 from most runs next → WritesBeginning old new (listing_written runs) → WritesBeginning old new (page_lines u b from most)
page_begun u b b1 from most runs next old new lists begun = subst (λ (rs : List OpenRun). WritesBeginning old new (listing_written rs)) lists.runs_are begun

pub none_begun : (old : Option (List ℕ)) (bytes : List ℕ) → WritesBeginning old old bytes
none_begun old bytes = record { front = []; back = bytes; bytes_are = refl; written_are = Appends-nil old }

---- Page after page

module _ (u : Rules) (b : Book) where
  runs_joined : (xs ys : List (ℕ × Run)) → runs_written u b (xs ++ ys) ≡ runs_written u b xs ++ runs_written u b ys
  runs_joined xs ys = ap listing_written (map-append (open_run_told u.program_of b) xs ys) ∙ lines_joined open_run_text (map (open_run_told u.program_of b) xs) (map (open_run_told u.program_of b) ys)

  cut_at : (from most : ℕ) → open_lines u b from ≡ page_lines u b from most ++ runs_written u b (drop most (open_runs b from))
  cut_at from most = ap (runs_written u b) (sym (take-append-drop most (open_runs b from))) ∙ runs_joined (take most (open_runs b from)) (drop most (open_runs b from))

  next_page : (from most next : ℕ) → next_open b from most ≡ Some next → open_lines u b from ≡ page_lines u b from most ++ open_lines u b next
  next_page from most next is = cut_at from most ∙ ap (λ ps. page_lines u b from most ++ runs_written u b ps) (sym (behind from 1 b.runs most next is).0)

  last_page : (from most : ℕ) → next_open b from most ≡ None → open_lines u b from ≡ page_lines u b from most
  last_page from most is = cut_at from most ∙ ap (λ ps. page_lines u b from most ++ runs_written u b ps) (none_behind (drop most (open_runs b from)) is) ∙ append-nil (page_lines u b from most)

-- The lines before those of the open runs from a number on were written, so many pages, and each of them began behind the one before it.
pub record HasListed (u : Rules) (b : Book) (from count : ℕ) (old now : Option (List ℕ)) : Type 0 where
  pub done : List ℕ
  pub lines_are : open_lines u b 1 ≡ done ++ open_lines u b from
  pub written_are : Appends old now done
  pub far : count + 1 ≤ from

pub none_listed : (u : Rules) (b : Book) (from : ℕ) (old : Option (List ℕ)) → from ≡ 1 → HasListed u b from 0 old old
none_listed u b from old is = record { done = []; lines_are = ap (open_lines u b) (sym is); written_are = Appends-nil old; far = omega (arith, is) }

module _ (u : Rules) (b b0 b1 : Book) (from count most : ℕ) (old mid new : Option (List ℕ)) (is : b0 ≡ b) (size : most ≡ 256) (listed : HasListed u b from count old mid) where
  -- one more page, whatever the book is called at which it begins
  pub page_more : (next : ℕ) → TellsPage u b0 b1 from most (Some next) mid new → (b1 ≡ b) × HasListed u b next (count + 1) old new
  page_more next page =
      let here : TellsPage u b b1 from most (Some next) mid new = subst (λ (x : Book). TellsPage u x b1 from most (Some next) mid new) is page in
      let far : from + most ≤ next = (behind from 1 b.runs most next (sym here.next_is)).1.0 in (
        here.same,
        record {
          done = listed.done ++ page_lines u b from most;
          lines_are = listed.lines_are ∙ ap (λ l. listed.done ++ l) (next_page u b from most next (sym here.next_is)) ∙ sym (append_assoc listed.done (page_lines u b from most) (open_lines u b next));
          written_are = Appends-trans old mid new _ _ listed.written_are here.written_are;
          far = omega (arith, far, size, listed.far);
        },
      )

  pub all_listed : TellsPage u b0 b1 from most None mid new → TellsOpen u b b1 old new
  all_listed page =
      let here : TellsPage u b b1 from most None mid new = subst (λ (x : Book). TellsPage u x b1 from most None mid new) is page in (
        here.same,
        subst (Appends old new) (sym (listed.lines_are ∙ ap (λ l. listed.done ++ l) (last_page u b from most (sym here.next_is))))
            (Appends-trans old mid new _ _ listed.written_are here.written_are),
      )

  pub page_cut : WritesBeginning mid new (page_lines u b0 from most) → WritesBeginning old new (open_lines u b 1)
  page_cut page =
      let here : WritesBeginning mid new (page_lines u b from most) = subst (λ (x : Book). WritesBeginning mid new (page_lines u x from most)) is page in
      let rest = runs_written u b (drop most (open_runs b from)) in
      record {
        front = listed.done ++ here.front;
        back = here.back ++ rest;
        bytes_are =
            listed.lines_are
            ∙ ap (λ l. listed.done ++ l) (cut_at u b from most ∙ ap (λ l. l ++ rest) here.bytes_are ∙ append_assoc here.front here.back rest)
            ∙ sym (append_assoc listed.done here.front (here.back ++ rest));
        written_are = Appends-trans old mid new _ _ listed.written_are here.written_are;
      }

-- numbers end before
pub no_end : {A : Type 0} (u : Rules) (b : Book) (from count : ℕ) (old now : Option (List ℕ)) → HasListed u b from count old now → from < 2 ^ 63 → 2 ^ 64 ≤ count + 1 → A
no_end u b from count old now listed last ended = absurd (omega (arith, listed.far, last, ended))

---- Why it isn't listed

caused_by : (f : Fault) (missing given given1 : Type 0) (stops stops1 : Stop → Type 0) → (given → given1) → ((s : Stop) → stops s → stops1 s) → CausedUnwritten f missing given stops → CausedUnwritten f missing given1 stops1
caused_by (fault.NoMemory _) missing given given1 stops stops1 gives halts c = c
caused_by (fault.Mismatch run place name) missing given given1 stops stops1 gives halts c = c
caused_by fault.NoRun missing given given1 stops stops1 gives halts c = c
caused_by fault.StoreRefused missing given given1 stops stops1 gives halts c = gives c
caused_by fault.NotOurs missing given given1 stops stops1 gives halts c = c
caused_by fault.BadVersion missing given given1 stops stops1 gives halts c = c
caused_by (fault.Damaged d) missing given given1 stops stops1 gives halts c = c
caused_by fault.Unknown missing given given1 stops stops1 gives halts c = halts _ c
caused_by fault.Halted missing given given1 stops stops1 gives halts c = halts _ c
caused_by fault.NoFile missing given given1 stops stops1 gives halts c = c
caused_by fault.InputFailed missing given given1 stops stops1 gives halts c = c
caused_by fault.OutputFailed missing given given1 stops stops1 gives halts c = c
caused_by fault.BadSettings missing given given1 stops stops1 gives halts c = c
caused_by fault.BadUsage missing given given1 stops stops1 gives halts c = c

-- what stands behind a page that isn't listed stands behind the list
pub list_caused : {E : Type 0} (old mid new : E) (book : E → Book) (gives : E → E → Book → List Command → Code → Type 0) (stops : E → E → Book → List Command → Stop → Type 0) (sure : Type 0) (f : Fault) (from most : ℕ) → most ≡ 256
    → (sure → book mid ≡ book old)
    → ((b : Book) (cs : List Command) (k : Code) → gives mid new b cs k → gives old new b cs k)
    → ((b : Book) (cs : List Command) (s : Stop) → stops mid new b cs s → stops old new b cs s)
    → CausedUnwritten f ⊥ (sure → gives mid new (book mid) (command.Open from most ∷ []) code.StoreRefused) (stops mid new (book mid) (command.Open from most ∷ []))
    → CausedUnwritten f ⊥ (sure → (n : ℕ) × gives old new (book old) (command.Open n 256 ∷ []) code.StoreRefused) (λ s. sure → (n : ℕ) × stops old new (book old) (command.Open n 256 ∷ []) s)
list_caused old mid new book gives stops sure f from most size same still too =
    caused_by f ⊥ (sure → gives mid new (book mid) (command.Open from most ∷ []) code.StoreRefused) (sure → (n : ℕ) × gives old new (book old) (command.Open n 256 ∷ []) code.StoreRefused)
    (stops mid new (book mid) (command.Open from most ∷ [])) (λ s. sure → (n : ℕ) × stops old new (book old) (command.Open n 256 ∷ []) s)
    (λ h s. (
      from,
      subst (λ n. gives old new (book old) (command.Open from n ∷ []) code.StoreRefused) size
          (subst (λ (b : Book). gives old new b (command.Open from most ∷ []) code.StoreRefused) (same s) (still (book mid) (command.Open from most ∷ []) code.StoreRefused (h s))),
    ))
    (λ stop h s. (
      from,
      subst (λ n. stops old new (book old) (command.Open from n ∷ []) stop) size
          (subst (λ (b : Book). stops old new b (command.Open from most ∷ []) stop) (same s) (too (book mid) (command.Open from most ∷ []) stop h)),
    ))
