use Rattle.trace_cursor.proofs.LawLemmas.{good_begun, good_appended, good_linked, good_retained, stands_released}
use Rattle.trace_cursor.proofs.laws.cursors_stand.Goals as goal

pub returns-clause-begun : goal.returns-clause-begun
returns-clause-begun c old new x cursor whole begins good = good_begun old new x cursor whole begins good

pub returns-clause-appended : goal.returns-clause-appended
returns-clause-appended c old new x item cursor appends good = good_appended old new x cursor item appends good

pub returns-clause-linked : goal.returns-clause-linked
returns-clause-linked c old new parent child cursor links good = good_linked old new parent child cursor links good

pub returns-clause-retained : goal.returns-clause-retained
returns-clause-retained c old new x cursor recounts good = good_retained old new x cursor recounts good

pub returns-clause-released : goal.returns-clause-released
returns-clause-released c old new x cursor releases live stands = stands_released old new x cursor releases live stands
