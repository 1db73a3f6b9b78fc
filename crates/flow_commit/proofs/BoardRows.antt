-- What a small book gives out, by computation.
use Rattle.std.specs.Prelude.{◌≡◌, ℕ, [], ◌∷◌, Some, None, refl}
use Rattle.flow_base.specs.declared.book.Run.{Run}
use Rattle.flow_base.specs.declared.book.OpenActivity.{OpenActivity}
use Rattle.flow_base.specs.declared.event.Cmd.TheVariants.{Schedule, StartTimer}
use Rattle.flow_base.specs.declared.event.Input.TheVariants.{Started}
use Rattle.flow_base.specs.declared.value.Kind.TheVariants as kind
use Rattle.flow_base.specs.declared.event.Event.{Event}
use Rattle.flow_base.specs.declared.event.What.TheVariants.{Came, Asked}
use Rattle.flow_model.specs.Book.{Book}
use Rattle.flow_maps.specs.Agenda.{open_runs}
use Rattle.flow_commit.specs.Boards.{ready_tasks, next_due}

abbrev begun : Event
begun = record { id = 1; at = 5; what = Came (Started []) }

abbrev called : ℕ → Event
called n = record { id = n; at = 5; what = Asked (Schedule (97 ∷ []) [] 3 7 kind.Int) }

abbrev sleeps : Event
sleeps = record { id = 4; at = 5; what = Asked (StartTimer 40) }

abbrev waits : ℕ → ℕ → ℕ → OpenActivity
waits event attempt ready = record { event = event; attempt = attempt; ready = ready }

-- a run that has called two activities, the second of which is to be tried again at 30, and waits for a timer
abbrev first : Run
first = record { flow = 102 ∷ []; request = None; text = 1; history = begun ∷ called 2 ∷ called 3 ∷ sleeps ∷ []; tasks = waits 2 1 5 ∷ waits 3 2 30 ∷ [] }

-- one that has called another
abbrev second : Run
second = record { flow = 103 ∷ []; request = None; text = 1; history = begun ∷ called 2 ∷ []; tasks = waits 2 1 5 ∷ [] }

abbrev book : Book
book = record { texts = []; runs = first ∷ second ∷ [] }

-- what is ready by 5
row_1 : ready_tasks [] 5 book ≡ record { flow = 102 ∷ []; run = 1; event = 2; attempt = 1; activity = 97 ∷ []; args = [] } ∷ record { flow = 103 ∷ []; run = 2; event = 2; attempt = 1; activity = 97 ∷ []; args = [] } ∷ []
row_1 = refl

-- what was posted isn't there again
row_2 : ready_tasks ((1, 2, 1) ∷ []) 5 book ≡ record { flow = 103 ∷ []; run = 2; event = 2; attempt = 1; activity = 97 ∷ []; args = [] } ∷ []
row_2 = refl

-- but a later attempt is
row_3 : ready_tasks ((1, 2, 1) ∷ (1, 3, 1) ∷ (2, 2, 1) ∷ []) 30 book ≡ record { flow = 102 ∷ []; run = 1; event = 3; attempt = 2; activity = 97 ∷ []; args = [] } ∷ []
row_3 = refl

row_4 : next_due 5 book ≡ Some 30
row_4 = refl

row_5 : next_due 30 book ≡ Some 40
row_5 = refl

row_6 : open_runs book ≡ 2
row_6 = refl
