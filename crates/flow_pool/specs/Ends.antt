-- What the ends of the channel of tasks know.
use Rattle.std.specs.Prelude.{ℕ, ◌≡◌, List}
use Rattle.crossbeam_channel.specs.Claims.{view}
use Rattle.crossbeam_channel.specs.Ends.{sends_on, receives_on, ruled_capacity}
use Rattle.flow_base.specs.declared.task.Task.{Task}
use Rattle.flow_pool.specs.declared.hand.Back.{Back}
use Rattle.flow_pool.specs.declared.hand.Hand.{Hand}
use Rattle.flow_pool.specs.declared.hand.Truly.{Truly}
use Rattle.flow_pool.specs.declared.ends.TaskSender.{TaskSender}
use Rattle.flow_pool.specs.declared.ends.TaskReceiver.{TaskReceiver}
use Rattle.flow_pool.specs.declared.ends.Door.{Door}

-- all that was put
abbrev pub put_by : TaskSender → List Task
put_by s = (view s.pass).put

-- how many workers were made
abbrev pub made_by : TaskSender → ℕ
made_by s = (view s.pass).made

-- what the workers that came back had taken
abbrev pub back_at : TaskSender → List Back
back_at s = (view s.pass).back

-- all that came back, since no worker was left
abbrev pub came_back : TaskSender → List Task
came_back s = s.returned

-- how many tasks wait there for a worker at most
abbrev pub room_of : TaskSender → ℕ
room_of s = ruled_capacity (sends_on s.end)

-- what a worker knows: its number, and all that it has taken
abbrev pub known_by : {E : Type 0} → TaskReceiver E → Hand
known_by r = view r.pass

abbrev pub number_of : {E : Type 0} → TaskReceiver E → ℕ
number_of r = (known_by r).worker

abbrev pub taken_by : {E : Type 0} → TaskReceiver E → List Task
taken_by r = (known_by r).got

-- they are ends of one channel
abbrev pub AreOne : TaskSender → TaskReceiver Truly → Type 0
AreOne s r = receives_on r.end ≡ sends_on s.end

abbrev pub IsOpenTo : TaskSender → Door → Type 0
IsOpenTo s d = receives_on d.end ≡ sends_on s.end

-- they are ends of the same channel
abbrev pub IsSameEnd : {E : Type 0} → TaskReceiver E → TaskReceiver E → Type 0
IsSameEnd r s = receives_on s.end ≡ receives_on r.end

abbrev pub IsSameFeed : TaskSender → TaskSender → Type 0
IsSameFeed r s = sends_on s.end ≡ sends_on r.end
