-- One more of several commands has been decided.
use Rattle.std.proofs.Common.{◌≡◌, List, [], ◌∷◌, ◌++◌, sym, ap, ◌∙◌, subst, inr}
use Rattle.std.proofs.lemmas.List.{append_assoc}
use Rattle.flow_base.specs.declared.book.Change.{Change}
use Rattle.flow_base.specs.declared.command.Command.{Command}
use Rattle.flow_base.specs.declared.command.Reply.{Reply}
use Rattle.flow_model.specs.Book.{Book}
use Rattle.flow_model.specs.Apply.{Rules, outcome, after, replies}
use Rattle.flow_machine.specs.Deciding.{Decides}
use Rattle.flow_machine.specs.Fitting.{IsUnfitWithin}
use Rattle.flow_machine.specs.Stuck.{IsStuckWithin}

-- the commands that were left, of which the first leads from one book to the next
module _ (u : Rules) (at new : Book) (left : List Command) (c : Command) (rest : List Command) (cut : left ≡ c ∷ rest) (r : Reply) (changes : List Change) (d : Decides at new r changes (outcome u at c)) where
  pub told_on : (all : List Reply) (before later : List Reply) → later ≡ before ++ r ∷ [] → before ++ replies u at left ≡ all → later ++ replies u new rest ≡ all
  told_on all before later pushed told =
      let here : r ∷ replies u new rest ≡ replies u at (c ∷ rest) = ap (λ (x : Reply). x ∷ replies u new rest) d.reply_is ∙ ap (λ (b : Book). (outcome u at c).reply ∷ replies u b rest) d.book_is in
      ap (λ (l : List Reply). l ++ replies u new rest) pushed
      ∙ append_assoc before (r ∷ []) (replies u new rest)
      ∙ ap (λ (l : List Reply). before ++ l) here
      ∙ ap (λ (x : List Command). before ++ replies u at x) (sym cut)
      ∙ told

  pub led_on : (end : Book) → after u at left ≡ end → after u new rest ≡ end
  led_on end led = ap (λ (b : Book). after u b rest) d.book_is ∙ ap (after u at) (sym cut) ∙ led

  pub stuck_on : IsStuckWithin u new rest → IsStuckWithin u at left
  stuck_on h = subst (IsStuckWithin u at) (sym cut) (inr (subst (λ (b : Book). IsStuckWithin u b rest) d.book_is h))

  pub unfit_on : (unfit : Book → Change → Type 0) → IsUnfitWithin unfit u new rest → IsUnfitWithin unfit u at left
  unfit_on unfit h = subst (IsUnfitWithin unfit u at) (sym cut) (inr (subst (λ (b : Book). IsUnfitWithin unfit u b rest) d.book_is h))
