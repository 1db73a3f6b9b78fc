-- What a text is read as is what it means.
use Rattle.std.proofs.Common.{◌≡◌, inl, inr, Result, Ok, Err}
use Rattle.flow_base.specs.Syntax.{Bytes, Program}
use Rattle.flow_base.specs.declared.command.TextFault.{TextFault}
use Rattle.flow_model.specs.WellFormed.{WellFormed, IsFirstFault}
use Rattle.flow_model.specs.Meaning.{IsProgramOf, IsTextFault, Means}
use Rattle.flow_syntax.proofs.Meaning.{meant}
use Rattle.flow_syntax.proofs.MeansOnce.{means_once}
use Rattle.flow_check.specs.Language.{meaning_of}

pub meaning_is : (text : Bytes) → Means text (meaning_of text)
unfolding meaning_of
meaning_is text = (meant text).1

pub one_meaning : (text : Bytes) (m n : Result Program TextFault) → Means text m → Means text n → m ≡ n
one_meaning text m n h k = means_once text m n h k

pub means_program : (text : Bytes) (p : Program) → IsProgramOf text p → WellFormed p → meaning_of text ≡ Ok p
means_program text p is keeps = one_meaning text (meaning_of text) (Ok p) (meaning_is text) (is, keeps)

pub means_broken : (text : Bytes) (p : Program) (f : TextFault) → IsProgramOf text p → IsFirstFault p f → meaning_of text ≡ Err f
means_broken text p f is breaks = one_meaning text (meaning_of text) (Err f) (meaning_is text) (inr (p, is, breaks))

pub means_fault : (text : Bytes) (f : TextFault) → IsTextFault text f → meaning_of text ≡ Err f
means_fault text f is = one_meaning text (meaning_of text) (Err f) (meaning_is text) (inl is)
