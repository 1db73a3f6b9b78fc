use Rattle.flow_engine.proofs.Calls.{board_call, commit_call, verify_call}
use Rattle.flow_engine.proofs.headline.calls_are_parts.Goals as goal

pub returns-clause-commit : goal.returns-clause-commit
returns-clause-commit g c = commit_call g.S.Store

pub returns-clause-board : goal.returns-clause-board
returns-clause-board g c = board_call g.S.Store

pub returns-clause-verify : goal.returns-clause-verify
returns-clause-verify g c = verify_call g.S.Store
