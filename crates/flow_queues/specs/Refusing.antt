-- What is answered by a code.
use Rattle.flow_base.specs.declared.code.Code.{Code}
use Rattle.flow_base.specs.declared.submission.Taken.{Taken}
use Rattle.flow_queues.specs.declared.refused.Refused.{Refused}

abbrev pub refused_by : Code → Taken → Refused
refused_by code t = record { asked = t; code = code }
