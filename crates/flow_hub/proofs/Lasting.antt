-- What comes of waiting for a board behind all that is answered.
use Rattle.flow_hub.specs.declared.fed.Fed.{Fed}
use Rattle.flow_hub.specs.declared.fed.Fed.TheVariants as fed
use Rattle.flow_hub.specs.declared.fed.Until.TheVariants as until
use Rattle.flow_hub.specs.declared.known.HubFacts.{HubFacts}
use Rattle.flow_hub.specs.Ending.{EndsAt}
use Rattle.flow_hub.specs.Feeding.{HasFed, IsLast}

pub last_of : (old new : HubFacts) (f : Fed) → HasFed old new f → EndsAt until.Boarded new f → IsLast new f
last_of old new (fed.Task t) h e = tt
last_of old new fed.Nothing h e = e
last_of old new fed.Closed h e = h.1
