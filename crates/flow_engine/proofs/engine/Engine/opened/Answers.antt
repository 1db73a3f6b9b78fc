use Rattle.std.proofs.Common.{◌≡◌, List, Ok, sym, subst}
use Rattle.sqlite.specs.Held.{state}
use Rattle.flow_check.specs.Language.{meaning_of}
use Rattle.flow_tables.specs.Owned.{IsFound}
use Rattle.flow_commit.specs.Keeping.{Keeping, IsFit}
use Rattle.flow_recover.specs.declared.positions.Position.{Position}
use Rattle.flow_engine.specs.Opening.{HasFound, IsOpened, OpeningSays}
use Rattle.flow_engine.proofs.Committed.{one_book}
use Rattle.flow_engine.proofs.Found.{recovered_found}
use Rattle.flow_engine.proofs.Standing.{keeps_again, open_stands}
use Rattle.flow_engine.proofs.engine.Engine.opened.Goals as goal

pub over-engine-requires : goal.over-engine-requires
over-engine-requires g c =
    subst (λ (qs : List Position). IsFit g.S.Store c.in-Ok.keeper → HasFound g.S.Store c.in-Ok.keeper qs) (sym c.all.ensures)
    (recovered_found g.S.Store c.args.conn c.in-Ok.keeper c.in-Ok.found.items c.in-Ok.ensures.opened c.in-Ok.ensures.found)

-- What is said of the keeper is said of the engine over it.
pub returns-in-Ok-clause-positions : goal.returns-in-Ok-clause-positions
returns-in-Ok-clause-positions g c =
    subst (λ (k : Keeping g.row.S.Denot). IsFit g.S.Store k → HasFound g.S.Store k c.in-Ok.found.items) (sym c.over-engine.ensures)
    (recovered_found g.S.Store c.args.conn c.in-Ok.keeper c.in-Ok.found.items c.in-Ok.ensures.opened c.in-Ok.ensures.found)

pub returns-in-Ok-clause-says : goal.returns-in-Ok-clause-says
returns-in-Ok-clause-says g c =
    let from = state g.S.Store c.args.conn in
    let first = c.in-Ok.keeper in
    let its = c.in-Ok.ensures in
    let opened : IsFit g.S.Store first → IsOpened g.S.Store from first = λ fit. let one = its.found fit in
    record { book = first.found; found = one.found; kept = one.kept; of_rows = one.stands; stands = open_stands meaning_of first.found _ one.positions } in
    subst (λ (k : Keeping g.row.S.Denot). OpeningSays g.S.Store c.args.conn (Ok k)) (sym c.over-engine.ensures) (record {
      opened = its.opened;
      anew = its.anew;
      begins = its.begins;
      clean = its.clean;
      since = its.since;
      rest = its.rest;
      found = opened;
      format = its.format;
      again = λ clean db b file over. keeps_again g.S.Store first _ b (its.again db b file over clean);
      again_before = λ clean db b file over. keeps_again g.S.Store first _ b (its.again_before db b file over clean);
      closed = λ clean b holds. keeps_again g.S.Store first _ b (its.closed b holds clean);
      opens = record { opened = its.opened; clean = its.clean; since = its.since; anew = its.anew; found = opened };
      book = λ sure. let one = opened sure.fit in subst (IsFound from) (sym (one_book g.S.Store first one.book sure.up one.kept)) one.found;
      refused = tt;
    })

pub returns-in-Err-clause-says : goal.returns-in-Err-clause-says
returns-in-Err-clause-says g c =
    let its = c.in-Err.ensures in
    record {
      opened = tt;
      anew = tt;
      begins = tt;
      clean = tt;
      since = its.since;
      rest = tt;
      found = tt;
      format = tt;
      again = tt;
      again_before = tt;
      closed = tt;
      opens = tt;
      book = tt;
      refused = record {
        among = its.among;
        version = its.version;
        moving = its.moving;
        damaged = its.damaged;
        damaged_before = its.damaged_before;
        cause = its.cause;
        why = its.why;
        since = its.since;
        left = its.left;
        ended = its.ended;
        own = its.own;
        own_before = its.own_before;
        stops = its.stops;
        holds = its.holds;
      };
    }
