use Rattle.flow_model.specs.Configuration.{first_configuration}
use Rattle.flow_model.specs.Turn.{Fresh}
use Rattle.flow_model.proofs.Positions.{turned_is}
use Rattle.flow_model.proofs.OneMore.{stands_on, stands_first}
use Rattle.flow_model.proofs.laws.one_more_turn.Goals as goal

pub returns-clause-first : goal.returns-clause-first
returns-clause-first c = λ p at i cs k t. stands_first p at i cs k (turned_is p Fresh first_configuration at i cs k t)

pub returns-clause-more : goal.returns-clause-more
returns-clause-more c = λ p h k at i cs k2 s le t. stands_on p h k at i cs k2 s le (turned_is p Fresh k at i cs k2 t)
