-- What each firing keeps and has, a tick keeps and has.
use Rattle.std.proofs.Common.{◌≡◌, ℕ, zero, suc, List, [], ◌∷◌, ◌++◌, refl, sym, subst, Some, None}
use Rattle.flow_base.specs.declared.book.Due.{Due}
use Rattle.flow_base.specs.declared.book.Change.{Change}
use Rattle.flow_model.specs.Book.{Book, least_due, changed, changed_by}
use Rattle.flow_model.specs.Apply.{Rules, Firings, fired, on_due, before_firings, firings, firing_limit, tick}

pub changed_append : (b : Book) (cs ds : List Change) → changed_by b (cs ++ ds) ≡ changed_by (changed_by b cs) ds
changed_append b [] ds = refl
changed_append b (c ∷ cs) ds = changed_append (changed b c) cs ds

module _ (u : Rules) (at : ℕ) where
  -- the book that a firing leaves
  abbrev pub fired_book : Book → Due → Book
  fired_book b d = changed_by b (fired u b at d).changes

  -- what follows the firing of a timer
  abbrev pub goes_on : ℕ → Book → Due → Firings
  goes_on n b d = before_firings (fired u b at d).changes (firings u at n (fired_book b d))

  -- a property that each firing keeps
  module _ (P : Book → Type 0) (one : (b : Book) (d : Due) → P b → P (fired_book b d)) where
    firings_keep : (n : ℕ) (b : Book) → P b → P (changed_by b (firings u at n b).changes)
    unfolding firings
    firings_keep zero b h = h
    firings_keep (suc n) b h =
        elim (least_due b at) as (λ o. P (changed_by b (on_due o b (goes_on n b)).changes)) [
          | None ↦ h
          | Some d ↦ subst P (sym (changed_append b (fired u b at d).changes (firings u at n (fired_book b d)).changes)) (firings_keep n (fired_book b d) (one b d h))
        ]

    pub tick_keeps : (b : Book) → P b → P (changed_by b (tick u b at).changes)
    unfolding tick
    tick_keeps b h = firings_keep firing_limit b h

    -- What the changes of each firing have over the book that those before it left, all have that stand one behind the other.
    module _ (Q : Book → List Change → Type 0) (none : (b : Book) → Q b []) (has : (b : Book) (d : Due) → P b → Q b (fired u b at d).changes) where
      module _ (join : (b : Book) (cs ds : List Change) → Q b cs → Q (changed_by b cs) ds → Q b (cs ++ ds)) where
        firings_have : (n : ℕ) (b : Book) → P b → Q b (firings u at n b).changes
        unfolding firings
        firings_have zero b h = none b
        firings_have (suc n) b h =
            elim (least_due b at) as (λ o. Q b (on_due o b (goes_on n b)).changes) [
              | None ↦ none b
              | Some d ↦ join b (fired u b at d).changes (firings u at n (fired_book b d)).changes (has b d h) (firings_have n (fired_book b d) (one b d h))
            ]

        pub tick_has : (b : Book) → P b → Q b (tick u b at).changes
        unfolding tick
        tick_has b h = firings_have firing_limit b h
