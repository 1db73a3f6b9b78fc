-- One run more that an inspection sees, and the first damage at its end.
use Rattle.std.proofs.Common.{◌≡◌, ◌≢◌, ℕ, ◌+◌, pos, List, [], ◌∷◌, length, Bool, Option, Some, None, refl, sym, ap, ◌∙◌, subst}
use Rattle.std.specs.List.{AllByRecursion}
use Rattle.flow_base.specs.Syntax.{Bytes}
use Rattle.flow_base.specs.declared.book.Run.{Run}
use Rattle.flow_base.specs.declared.event.Event.{Event}
use Rattle.flow_base.specs.declared.fault.Damage.{Damage}
use Rattle.flow_rows.specs.declared.inspection.Inspection.{Inspection}
use Rattle.flow_rows.specs.declared.inspection.Met.{Met}
use Rattle.flow_rows.specs.declared.inspection.StrayDamages.{StrayDamages}
use Rattle.flow_rows.specs.declared.rows.RunRow.{RunRow}
use Rattle.flow_rows.specs.declared.taken_names.NamesInUse.{NamesInUse}
use Rattle.flow_rows.specs.Damages.{first_of, history_from}
use Rattle.flow_rows.specs.Taken.{HasTaken, Takes}
use Rattle.flow_rows.specs.Parts.{Passed, RunPart, each_damaged, first_between, history_damaged, or_else, outbox_damaged, rows_before, run_damaged, timers_damaged, told_part, with_run}
use Rattle.flow_rows.specs.Inspecting.{GivesRun, HasSeen, IsClean, first_met, first_passed, told_where, told_with}
use Rattle.flow_rows.proofs.Parting.{neither, or_none, rows_more, run_more, table_more}
use Rattle.flow_rows.proofs.ReadableRuns.{told_of_undamaged}

abbrev pub met_of : Option Damage → Option Damage → Option Damage → Option Damage → Option Damage → Met
met_of texts runs events timers outbox = record { texts = texts; runs = runs; events = events; timers = timers; outbox = outbox }

abbrev pub inspection_of : ℕ → NamesInUse → Met → Inspection
inspection_of texts taken met = record { texts = texts; taken = taken; met = met }

something : (d : Damage) → Some d ≡ None → ⊥
something d h = let same = h in cc

-- the first damage of no list is none
none_listed : (ds : List Damage) → first_of ds ≡ None → ds ≡ []
none_listed [] h = refl
none_listed (d ∷ ds) h = absurd (something d h)

record AllNone (m : Met) : Type 0 where
  texts : m.texts ≡ None
  runs : m.runs ≡ None
  events : m.events ≡ None
  timers : m.timers ≡ None
  outbox : m.outbox ≡ None

all_none : (m : Met) → first_met m ≡ None → AllNone m
all_none m h =
    let texts = neither m.texts (or_else m.runs (or_else m.events (or_else m.timers m.outbox))) h in
    let runs = neither m.runs (or_else m.events (or_else m.timers m.outbox)) texts.1 in
    let events = neither m.events (or_else m.timers m.outbox) runs.1 in
    let timers = neither m.timers m.outbox events.1 in
    record { texts = texts.0; runs = runs.0; events = events.0; timers = timers.0; outbox = timers.1 }

clean_where : (m : Met) → AllNone m → first_met m ≡ None
clean_where m all =
    (λ i. or_else (all.texts i) (or_else (all.runs i) (or_else (all.events i) (or_else (all.timers i) (all.outbox i)))))

---- One run more

-- what its rows add to what was met
record Adds (i : Inspection) (n : ℕ) (q : RunPart) (before : List RunRow) (taken : NamesInUse) (m : Met) : Type 0 where
  takes : Takes i.taken q.row taken
  texts : m.texts ≡ i.met.texts
  runs : m.runs ≡ or_else i.met.runs (first_of (run_damaged i.texts before n q))
  events : m.events ≡ or_else i.met.events (first_of (history_damaged n q))
  timers : m.events ≡ None → m.timers ≡ or_else i.met.timers (first_of (timers_damaged n q))
  outbox : m.events ≡ None → m.outbox ≡ or_else i.met.outbox (first_of (outbox_damaged n q))

module _ (p : Bytes → Bool) (i : Inspection) (g : Passed) (n : ℕ) (q : RunPart) (taken : NamesInUse) (m : Met) (next : n ≡ length g.runs + 1) (seen : HasSeen p i g) (adds : Adds i n q (rows_before g.runs) taken m) where
  was_none : m.events ≡ None → i.met.events ≡ None
  was_none none = (neither i.met.events (first_of (history_damaged n q)) (sym adds.events ∙ none)).0

  has_seen : HasSeen p (inspection_of i.texts taken m) (with_run g q)
  has_seen =
      record {
        count = seen.count;
        taken = subst (HasTaken taken) (sym (rows_more g.runs q)) (adds.takes (rows_before g.runs) seen.taken);
        met = record {
          texts = adds.texts ∙ seen.met.texts;
          runs =
              adds.runs
              ∙ (λ k. or_else (seen.met.runs k) (first_of (run_damaged (seen.count k) (rows_before g.runs) n q)))
              ∙ sym (run_more (length g.texts) n g.runs q next);
          events =
              adds.events
              ∙ ap (λ o. or_else o (first_of (history_damaged n q))) seen.met.events
              ∙ sym (table_more history_damaged n g.runs q next);
          timers = λ none.
              adds.timers none
              ∙ ap (λ o. or_else o (first_of (timers_damaged n q))) (seen.met.timers (was_none none))
              ∙ sym (table_more timers_damaged n g.runs q next);
          outbox = λ none.
              adds.outbox none
              ∙ ap (λ o. or_else o (first_of (outbox_damaged n q))) (seen.met.outbox (was_none none))
              ∙ sym (table_more outbox_damaged n g.runs q next);
        };
      }

  -- nothing was damaged before, and of the run nothing is
  was_clean : AllNone m → first_met i.met ≡ None
  was_clean all =
      clean_where i.met (record {
        texts = sym adds.texts ∙ all.texts;
        runs = (neither i.met.runs (first_of (run_damaged i.texts (rows_before g.runs) n q)) (sym adds.runs ∙ all.runs)).0;
        events = was_none all.events;
        timers = (neither i.met.timers (first_of (timers_damaged n q)) (sym (adds.timers all.events) ∙ all.timers)).0;
        outbox = (neither i.met.outbox (first_of (outbox_damaged n q)) (sym (adds.outbox all.events) ∙ all.outbox)).0;
      })

  is_told : AllByRecursion (λ r. r.run ≡ pos n) q.outbox → AllNone m → told_with q (history_from 1 q.events) ≡ Some (told_part q)
  is_told named all =
      told_of_undamaged i.texts (rows_before g.runs) n q named
      (none_listed (run_damaged i.texts (rows_before g.runs) n q) (neither i.met.runs (first_of (run_damaged i.texts (rows_before g.runs) n q)) (sym adds.runs ∙ all.runs)).1)
      (none_listed (history_damaged n q) (neither i.met.events (first_of (history_damaged n q)) (sym adds.events ∙ all.events)).1)
      (none_listed (outbox_damaged n q) (neither i.met.outbox (first_of (outbox_damaged n q)) (sym (adds.outbox all.events) ∙ all.outbox)).1)

  gives : AllByRecursion (λ r. r.run ≡ pos n) q.outbox → (o : Option Run) (met : Option Damage) → first_met m ≡ met → o ≡ told_where met q (history_from 1 q.events)
      → GivesRun i (inspection_of i.texts taken m) q o
  gives named o None none is =
      let all = all_none m none in
      subst (GivesRun i (inspection_of i.texts taken m) q) (sym (is ∙ is_told named all)) (was_clean all, none, refl)
  gives named o (Some d) one is =
      subst (GivesRun i (inspection_of i.texts taken m) q) (sym is) (λ none. something d (sym one ∙ none))

-- a run whose history reads
pub sees_run : (p : Bytes → Bool) (i : Inspection) (g : Passed) (n : ℕ) (q : RunPart) (taken : NamesInUse) (runs timers outbox : Option Damage) (h : List Event) (o : Option Run)
    → n ≡ length g.runs + 1 → HasSeen p i g → AllByRecursion (λ r. r.run ≡ pos n) q.outbox → Takes i.taken q.row taken
    → runs ≡ or_else i.met.runs (first_of (run_damaged i.texts (rows_before g.runs) n q)) → history_damaged n q ≡ [] → h ≡ history_from 1 q.events
    → timers ≡ or_else i.met.timers (first_of (timers_damaged n q)) → outbox ≡ or_else i.met.outbox (first_of (outbox_damaged n q))
    → o ≡ told_where (first_met (met_of i.met.texts runs i.met.events timers outbox)) q h
    → HasSeen p (inspection_of i.texts taken (met_of i.met.texts runs i.met.events timers outbox)) (with_run g q)
    × GivesRun i (inspection_of i.texts taken (met_of i.met.texts runs i.met.events timers outbox)) q o
sees_run p i g n q taken runs timers outbox h o next seen named takes runs_is none read timers_is outbox_is is =
    let m = met_of i.met.texts runs i.met.events timers outbox in
    let adds : Adds i n q (rows_before g.runs) taken m =
    record {
      takes = takes;
      texts = refl;
      runs = runs_is;
      events = sym (or_none i.met.events) ∙ ap (λ ds. or_else i.met.events (first_of ds)) (sym none);
      timers = λ none. timers_is;
      outbox = λ none. outbox_is;
    } in
    (has_seen p i g n q taken m next seen adds, gives p i g n q taken m next seen adds named o (first_met m) refl (is ∙ ap (told_where (first_met m) q) read))

-- a run whose history is damaged
pub sees_damage : (p : Bytes → Bool) (i : Inspection) (g : Passed) (n : ℕ) (q : RunPart) (taken : NamesInUse) (runs events : Option Damage) (d : Damage)
    → n ≡ length g.runs + 1 → HasSeen p i g → Takes i.taken q.row taken
    → runs ≡ or_else i.met.runs (first_of (run_damaged i.texts (rows_before g.runs) n q)) → first_of (history_damaged n q) ≡ Some d → events ≡ or_else i.met.events (Some d)
    → HasSeen p (inspection_of i.texts taken (met_of i.met.texts runs events i.met.timers i.met.outbox)) (with_run g q)
    × (first_met (met_of i.met.texts runs events i.met.timers i.met.outbox) ≢ None)
sees_damage p i g n q taken runs events d next seen takes runs_is one events_is =
    let m = met_of i.met.texts runs events i.met.timers i.met.outbox in
    let never : m.events ≡ None → ⊥ = λ none. something d (neither i.met.events (Some d) (sym events_is ∙ none)).1 in
    let adds : Adds i n q (rows_before g.runs) taken m =
    record {
      takes = takes;
      texts = refl;
      runs = runs_is;
      events = events_is ∙ ap (or_else i.met.events) (sym one);
      timers = λ none. absurd (never none);
      outbox = λ none. absurd (never none);
    } in
    (has_seen p i g n q taken m next seen adds, λ none. never (all_none m none).events)

---- The end

module _ (p : Bytes → Bool) (i : Inspection) (g : Passed) (below behind : StrayDamages) (seen : HasSeen p i g) where
  abbrev timers_first : Option Damage
  timers_first = or_else below.timers (or_else i.met.timers behind.timers)

  abbrev outbox_first : Option Damage
  outbox_first = or_else below.outbox (or_else i.met.outbox behind.outbox)

  behind_events : (events : Option Damage) → or_else below.events (or_else i.met.events behind.events) ≡ events
      → or_else events (or_else timers_first outbox_first)
      ≡ or_else events (or_else (first_between below.timers (each_damaged timers_damaged 1 g.runs) behind.timers) (first_between below.outbox (each_damaged outbox_damaged 1 g.runs) behind.outbox))
  behind_events (Some d) is = refl
  behind_events None is =
      let none = (neither i.met.events behind.events (neither below.events (or_else i.met.events behind.events) is).1).0 in
      λ k. or_else (or_else below.timers (or_else (seen.met.timers none k) behind.timers)) (or_else below.outbox (or_else (seen.met.outbox none k) behind.outbox))

  -- the first of all is the first of each table, in their order
  pub ends : first_met (met_of i.met.texts i.met.runs (or_else below.events (or_else i.met.events behind.events)) (or_else below.timers (or_else i.met.timers behind.timers)) (or_else below.outbox (or_else i.met.outbox behind.outbox)))
      ≡ first_passed p g below behind
  ends =
      ap (λ o. or_else i.met.texts (or_else i.met.runs o)) (behind_events (or_else below.events (or_else i.met.events behind.events)) refl)
      ∙ (λ k. or_else (seen.met.texts k) (or_else (seen.met.runs k) (or_else (or_else below.events (or_else (seen.met.events k) behind.events)) (or_else (first_between below.timers (each_damaged timers_damaged 1 g.runs) behind.timers) (first_between below.outbox (each_damaged outbox_damaged 1 g.runs) behind.outbox)))))

-- if there is none at the end, none was met before
pub was_clean_before : (i : Inspection) (below behind : StrayDamages)
    → first_met (met_of i.met.texts i.met.runs (or_else below.events (or_else i.met.events behind.events)) (or_else below.timers (or_else i.met.timers behind.timers)) (or_else below.outbox (or_else i.met.outbox behind.outbox))) ≡ None
    → IsClean i
was_clean_before i below behind none =
    let all = all_none (met_of i.met.texts i.met.runs (or_else below.events (or_else i.met.events behind.events)) (or_else below.timers (or_else i.met.timers behind.timers)) (or_else below.outbox (or_else i.met.outbox behind.outbox))) none in
    clean_where i.met (record {
      texts = all.texts;
      runs = all.runs;
      events = (neither i.met.events behind.events (neither below.events (or_else i.met.events behind.events) all.events).1).0;
      timers = (neither i.met.timers behind.timers (neither below.timers (or_else i.met.timers behind.timers) all.timers).1).0;
      outbox = (neither i.met.outbox behind.outbox (neither below.outbox (or_else i.met.outbox behind.outbox) all.outbox).1).0;
    })
