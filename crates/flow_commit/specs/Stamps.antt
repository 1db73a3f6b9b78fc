-- What a stamp names.
use Rattle.std.specs.Prelude.{◌≡◌, ℕ, List, [], ◌∷◌, length, map, refl}
use Rattle.std.specs.Coded.{Coded, code_by, coded×, coded_list, coded_ℕ}
use Rattle.sqlite_trees.specs.View.{doubt}
use Rattle.flow_base.specs.declared.submission.Receipt.{Receipt}
use Rattle.flow_commit.specs.Keeping.{AreReplies, place_of, count_from}
use Rattle.flow_commit.specs.Accounts.{Accounted, WereOurs, account_code, log_code, no_account}

-- The tables that were opened were ours or none, and the disk had told no lie so far.
abbrev pub IsTrusted : Accounted → Type 0
IsTrusted a = WereOurs a.base.opened × (doubt a.clean ≡ 0)

-- As far as it is to be trusted all replies are those of apply over the book that was found.
abbrev pub IsLegal : Accounted → Type 0
IsLegal a = IsTrusted a → AreReplies a.base.found a.log

-- one history, whose places count from 1
pub record IsLawful (a : Accounted) : Type 0 where
  pub legal : IsLegal a
  pub counts : a.kept ≡ length a.log
  pub places : map place_of a.log ≡ count_from 1 a.kept

-- the one that a list holds
abbrev pub only : List Accounted → Accounted
only [] = no_account
only (a ∷ more) = a

-- The place of the batch's last command; for contracts alone what the keeper had kept as the commit left it, and the receipts of the
-- batch, which are the last of these; and the runs that the batch has closed.
pub record Stamped : Type 0 where
  pub number : ℕ
  pub account : Accounted
  pub own : List Receipt
  pub closed : List ℕ

abbrev pub stamped_code : Coded Stamped
stamped_code =
    code_by (ℕ × (Accounted × (List Receipt × List ℕ))) (coded× coded_ℕ (coded× account_code (coded× log_code (coded_list coded_ℕ)))) (λ s. (s.number, (s.account, (s.own, s.closed))))
    (λ p. record { number = p.0; account = p.1.0; own = p.1.1.0; closed = p.1.1.1 }) (λ _. refl)

-- the stamp names what its keeper has kept, and these receipts
abbrev pub IsStampOf : Accounted → List Receipt → Stamped → Type 0
IsStampOf a rs stamp = stamp ≡ record { number = a.kept; account = a; own = rs; closed = stamp.closed }
