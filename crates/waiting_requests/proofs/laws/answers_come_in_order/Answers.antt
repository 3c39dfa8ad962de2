use Rattle.std.proofs.lemmas.List.{map-append}
use Rattle.waiting_requests.specs.Bodies.{reply_to}
use Rattle.waiting_requests.proofs.laws.answers_come_in_order.Goals as goal

pub returns : goal.returns
returns c = λ store programs some others. map-append (reply_to store programs) some others
