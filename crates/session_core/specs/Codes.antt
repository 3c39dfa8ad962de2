-- How a state and a session are told apart from others of their kind: as the tuples of their fields (this project).
use Rattle.std.specs.Prelude.{ℕ, Bool, List, Option, refl}
use Rattle.std.specs.Coded.{Coded, code_by, coded×, coded_ℕ, coded_bool, coded_list, coded_option}
use Rattle.hl_base.specs.declared.place.PathId.{PathId}
use Rattle.document_store.specs.Holdings.{store_code}
use Rattle.document_store.specs.Store.{Store}
use Rattle.library_folders.specs.contracts.configuration.Configuration as configuration
use Rattle.library_folders.specs.declared.configuration.Configuration.{Configuration}
use Rattle.debug_sessions.specs.State.{Debuggers}
use Rattle.debug_sessions.specs.contracts.debugger.Debugger as debugger
use Rattle.waiting_requests.specs.contracts.request.Request as request
use Rattle.waiting_requests.specs.declared.request.Request.{Request}
use Rattle.session_core.specs.contracts.state.LastList as last_list
use Rattle.session_core.specs.contracts.state.Stage as stage
use Rattle.session_core.specs.declared.state.LastList.{LastList}
use Rattle.session_core.specs.declared.state.Stage.{Stage}
use Rattle.session_core.specs.SessionView.{SessionView}
use Rattle.session_core.specs.State.{State}

abbrev path_code : Coded PathId
path_code = code_by ℕ coded_ℕ (λ n. n.0) (λ n. record { 0 = n }) (λ _. refl)

abbrev pub state_code : Coded State
state_code =
    code_by
    (Stage × (Option (List ℕ) × (ℕ × (Configuration × (Store × (List PathId × (List LastList × (Debuggers × List Request))))))))
    (coded× stage.the_row.coded (coded× (coded_option (coded_list coded_ℕ)) (coded× coded_ℕ (coded× configuration.the_row.coded
    (coded× store_code (coded× (coded_list path_code) (coded× (coded_list last_list.the_row.coded)
    (coded× (coded_list debugger.the_row.coded) (coded_list request.the_row.coded)))))))))
    (λ s. (s.stage, (s.root, (s.budget, (s.configuration, (s.store, (s.queue, (s.published, (s.debuggers, s.waiting)))))))))
    (λ t. record {
      stage = t.0;
      root = t.1.0;
      budget = t.1.1.0;
      configuration = t.1.1.1.0;
      store = t.1.1.1.1.0;
      queue = t.1.1.1.1.1.0;
      published = t.1.1.1.1.1.1.0;
      debuggers = t.1.1.1.1.1.1.1.0;
      waiting = t.1.1.1.1.1.1.1.1;
    })
    (λ _. refl)

abbrev pub held_code : Coded SessionView
held_code =
    code_by
    (State × (List ℕ × Bool))
    (coded× state_code (coded× (coded_list coded_ℕ) coded_bool))
    (λ h. (h.state, (h.output, h.spent)))
    (λ t. record { state = t.0; output = t.1.0; spent = t.1.1 })
    (λ _. refl)
