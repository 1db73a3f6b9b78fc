use Rattle.flow_maps.proofs.Staying.{IsOfRun, all_stay}
use Rattle.flow_maps.proofs.book_texts.BookTexts.follow.Goals as goal

pub returns-in-AddText : goal.returns-in-AddText
returns-in-AddText c = rw c.in-AddText.is c.add.ensures

pub returns-in-AddRun : goal.returns-in-AddRun
returns-in-AddRun c b h =
    let of_run : IsOfRun c.args.change.now = rw c.in-AddRun.is tt in
    all_stay c.args.self.now b c.args.change.now of_run h

pub returns-in-AddTurn : goal.returns-in-AddTurn
returns-in-AddTurn c b h =
    let of_run : IsOfRun c.args.change.now = rw c.in-AddTurn.is tt in
    all_stay c.args.self.now b c.args.change.now of_run h

pub returns-in-SetAttempt : goal.returns-in-SetAttempt
returns-in-SetAttempt c b h =
    let of_run : IsOfRun c.args.change.now = rw c.in-SetAttempt.is tt in
    all_stay c.args.self.now b c.args.change.now of_run h

pub returns-in-SetText : goal.returns-in-SetText
returns-in-SetText c b h =
    let of_run : IsOfRun c.args.change.now = rw c.in-SetText.is tt in
    all_stay c.args.self.now b c.args.change.now of_run h
