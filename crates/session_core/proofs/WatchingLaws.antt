-- Messages on files: what readings of the library make of the state, and what is so over their calls.
use Rattle.std.proofs.Common.{◌≡◌, ℕ, ◌+◌, ◌<◌, ◌≤◌, suc, true, false, cond, List, [], ◌∷◌, ◌++◌, length, map, drop, get_or, Option, Some, None, Result, Ok, Err, OnOk, IfOk, IsErr, refl, sym, ap, ◌∙◌, subst, arith}
use Rattle.std.specs.Prelude.{IfSome, is_some}
use Rattle.std.specs.List.{Contains}
use Rattle.hl_base.specs.declared.memory.OutOfMemory.{OutOfMemory}
use Rattle.hl_base.specs.declared.place.PathId.{PathId}
use Rattle.io_edge.specs.LibraryCall.{LibraryCall}
use Rattle.document_store.specs.declared.limits.TheConstants.{MOST_DOCUMENTS}
use Rattle.document_store.specs.Store.{Store, OpenDocument, empty_store, number_of}
use Rattle.document_store.specs.Shown.{HaveNumbers}
use Rattle.file_uri.specs.Paths.{path_of}
use Rattle.group_members.specs.Members.{Indexes}
use Rattle.group_members.specs.declared.index.MemberIndex.{MemberIndex}
use Rattle.library_folders.specs.declared.configuration.Configuration.{Configuration}
use Rattle.library_folders.specs.declared.folders.Folder.{Folder}
use Rattle.library_reading.specs.Asked.{Came, Asking, answered, ◌>>=◌, AsksOver}
use Rattle.library_reading.specs.Log.{Log, empty_log, without_lines}
use Rattle.library_reading.specs.Reading.{Reading, configuration_read}
use Rattle.library_reading.specs.Taking.{Taking, Passed, member_read, number_dropped, path_dropped}
use Rattle.library_reading.proofs.AskedLaws.{AreShort, asks_nothing, asks_stopped, asks_made, asks_lost, asks_cut, GoesOn, goes_next, goes_ends}
use Rattle.library_reading.proofs.DocumentLaws.{Whenever, documents_read, documents_configured}
use Rattle.library_reading.proofs.MemberLaws.{drop-next}
use Rattle.lsp_messages.specs.declared.incoming.LspIn.TheVariants.{Initialized, DidChangeWatchedFiles}
use Rattle.lsp_messages.specs.declared.incoming.ChangeKind.{ChangeKind}
use Rattle.lsp_messages.specs.declared.incoming.ChangeKind.TheVariants.{Changed}
use Rattle.lsp_messages.specs.declared.incoming.FileChange.{FileChange}
use Rattle.waiting_requests.specs.Names.{Names}
use Rattle.session_core.specs.declared.state.LastList.{LastList}
use Rattle.session_core.specs.declared.state.Stage.{Stage}
use Rattle.session_core.specs.declared.state.Stage.TheVariants.{Fresh, Active, Closing, Ended}
use Rattle.session_core.specs.declared.watching.Watch.{Watch}
use Rattle.session_core.specs.Inside.{AreNumbered, IsSound, IsWhole, libraries_in, names_among, configured_where, watched_so_far}
use Rattle.session_core.specs.Message.{Watching, unconcerned, concerned_by, taking_of, after_reading, after_member, configured, member_changed, is_configuration, is_member_file, change_told, changes_told, after_watching, begun, effect, asked, asked_at, queue_all, settled}
use Rattle.session_core.specs.Refusals.{is_active}
use Rattle.session_core.specs.Replies.{logged_line}
use Rattle.session_core.specs.State.{State, Around, libraries}
use Rattle.session_core.specs.Step.{Effect, quiet, IsEffect}
use Rattle.session_core.proofs.ListedLaws.{sound_none}
use Rattle.session_core.proofs.ShortLaws.{short_configured, short_changes}
use Rattle.session_core.proofs.StoreLaws.{IsFew}

-- ---- documents and files in their place

numbers_of : (paths : List (List ℕ)) (documents : List OpenDocument)
    → ((document : OpenDocument) → Contains documents document → (n : ℕ) × (number_of paths document.path ≡ Some n)) → AreNumbered paths documents
numbers_of paths [] have = tt
numbers_of paths (first ∷ others) have =
    let within : 0 < length (first ∷ others) = omega arith in (
      have first (0, within, refl),
      numbers_of paths others (λ document among. have document (suc among.0, (let less = among.1 in omega arith), among.2)),
    )

-- documents and files stand in their place, where no list counts as one of what is there
pub whole_put : (listed : List PathId) (folders : List Folder) (index : Option MemberIndex) (names : Option (List Names)) (around : Around) (store : Store) (published : List LastList)
    → listed ≡ [] → index ≡ None → names ≡ None → IsFew store → HaveNumbers store → folders ≡ libraries_in around → IsWhole listed folders index names around store published
whole_put listed folders index names around store published none forgotten untold few numbered are = record {
  sound = subst (λ l. IsSound l around store published) (sym none) (sound_none around store published few (numbers_of store.paths store.documents numbered));
  folders_are = are;
  index_is = subst (λ i. IfSome i (Indexes store)) (sym forgotten) tt;
  names_are = subst (λ n. IfSome n (λ told. told ≡ names_among around store)) (sym untold) tt;
}

-- none are in their place
pub whole_empty : (listed : List PathId) (folders : List Folder) (index : Option MemberIndex) (names : Option (List Names)) (around : Around) (store : Store) (published : List LastList)
    → listed ≡ [] → index ≡ None → names ≡ None → store ≡ empty_store → folders ≡ libraries_in around → IsWhole listed folders index names around store published
whole_empty listed folders index names around store published none forgotten untold empty are =
    subst (λ z. IsWhole listed folders index names around z published) (sym empty)
    (whole_put listed folders index names around empty_store published none forgotten untold (omega arith)
    (λ document among. absurd (let within = among.1 in omega arith)) are)

-- as many documents are open where the configuration was read
pub few_configured : {T : Type 0} (root : List ℕ) (taking : Taking) (reached : T → Reading) (value : T) (before now : Option (List LibraryCall)) (few many : ℕ)
    → AsksOver (configuration_read root taking) reached (Ok value) before now few many → IsFew taking.store → IsFew (reached value).taking.store
few_configured root taking reached value before now few many one fits =
    let same : (reached value).taking.store.documents ≡ taking.store.documents =
    subst (Whenever (λ (reading : Reading). reading.taking.store.documents ≡ taking.store.documents)) (one.comes []) (documents_configured root taking (one.calls ++ [])) in
    subst (λ (documents : List OpenDocument). length documents ≤ MOST_DOCUMENTS) (sym same) fits

-- or a member
pub few_read : {T : Type 0} (path : List ℕ) (taking : Taking) (reached : T → Passed) (value : T) (before now : Option (List LibraryCall)) (few many : ℕ)
    → AsksOver (member_read path taking) reached (Ok value) before now few many → IsFew taking.store → IsFew (reached value).taking.store
few_read path taking reached value before now few many one fits =
    let same : (reached value).taking.store.documents ≡ taking.store.documents =
    subst (Whenever (λ (passed : Passed). passed.taking.store.documents ≡ taking.store.documents)) (one.comes []) (documents_read path taking (one.calls ++ [])) in
    subst (λ (documents : List OpenDocument). length documents ≤ MOST_DOCUMENTS) (sym same) fits

few_number : (store : Store) (n : Option ℕ) → IsFew store → IsFew (number_dropped store n)
few_number store None fits = fits
few_number store (Some n) fits = fits

-- or a member was dropped
pub few_dropped : (store left : Store) (path : List ℕ) → left ≡ path_dropped store path → IsFew store → IsFew left
few_dropped store left path is fits = subst IsFew (sym is) (few_number store (number_of store.paths path) fits)

-- ---- what is taken for a message

-- the lines that were said, and then the bodies of an event, were taken
pub taken_as : {T : Type 0} (w : Watching) (effect : Effect) (log : Log) (s : State) (bodies : List (List ℕ)) (now : Watch) (result : Result T OutOfMemory)
    → IsEffect effect s bodies → OnOk result (now.bodies ≡ w.bodies ++ (map logged_line log.lines ++ bodies)) → OnOk result (now.logs ≡ without_lines log)
    → OnOk result (now.concerned ≡ true) → IfOk result (λ _. concerned_by w effect log ≡ watched_so_far s now)
taken_as w effect log s bodies now (Ok value) is bodies_are logs_are concerned =
    ap (λ e. concerned_by w e log) is
    ∙ ap (λ z. record { state = s; bodies = z; log = without_lines log; concerned = true }) (sym bodies_are)
    ∙ ap (λ z. record { state = s; bodies = now.bodies; log = z; concerned = true }) (sym logs_are)
    ∙ ap (λ z. record { state = s; bodies = now.bodies; log = now.logs; concerned = z }) (sym concerned)
taken_as w effect log s bodies now (Err fault) is bodies_are logs_are concerned = tt

-- before anything is looked at
pub unconcerned_as : (s : State) (watch : Watch) → watch.bodies ≡ [] → watch.logs ≡ empty_log → watch.concerned ≡ false → watched_so_far s watch ≡ unconcerned s
unconcerned_as s watch bodies logs concerned =
    ap (λ z. record { state = s; bodies = z; log = watch.logs; concerned = watch.concerned }) bodies
    ∙ ap (λ z. record { state = s; bodies = []; log = z; concerned = watch.concerned }) logs
    ∙ ap (λ z. record { state = s; bodies = []; log = empty_log; concerned = z }) concerned

-- ---- where nothing is asked

-- what is answered is what was reached, unless memory ran out
pub asks_alone : {A T : Type 0} (asking : Asking A) (value : A) (reached : T → A) (result : Result T OutOfMemory) (told : Option (List LibraryCall)) (many : ℕ)
    → asking ≡ answered value → IfOk result (λ last. value ≡ reached last) → AsksOver asking reached result told told many many
asks_alone asking value reached (Ok last) told many is same =
    asks_nothing asking reached last told many (λ more. ap (λ z. z more) is ∙ ap (λ z. Came z more) same)
asks_alone asking value reached (Err fault) told many is same =
    asks_stopped asking reached (Err fault) told many refl (subst AreShort (sym is) tt)

-- a state to which an event came that wrote nothing
pub quiet_as : (s now : State) (bodies : List (List ℕ)) → now ≡ s → bodies ≡ [] → quiet s ≡ record { state = now; bodies = bodies }
quiet_as s now bodies is none = ap quiet (sym is) ∙ ap (λ z. record { state = now; bodies = z }) (sym none)

-- what is asked, in other words
pub asks_as : {A T : Type 0} (asking other : Asking A) (reached : T → A) (result : Result T OutOfMemory) (before now : Option (List LibraryCall)) (few many : ℕ)
    → asking ≡ other → AsksOver other reached result before now few many → AsksOver asking reached result before now few many
asks_as asking other reached result before now few many is one = subst (λ z. AsksOver z reached result before now few many) (sym is) one

-- ---- the configuration

pub short_where : (root : Option (List ℕ)) (w : Watching) → AreShort (configured_where root w)
short_where None w = tt
short_where (Some root) w = short_configured root w

-- there is a root
pub configured_at : (root : Option (List ℕ)) (r text : List ℕ) (w : Watching) → root ≡ Some r → text ≡ r → configured_where root w ≡ configured text w
configured_at root r text w is same = ap (λ z. configured_where z w) is ∙ ap (λ z. configured z w) (sym same)

-- it was read, and was taken unless memory ran out
pub configured_reached : {T U : Type 0} (root : List ℕ) (w : Watching) (store : Store) (reached : T → Reading) (ends : U → Watching) (value : T)
    (result : Result U OutOfMemory) (before now : Option (List LibraryCall)) (few many : ℕ) → store ≡ w.state.store
    → AsksOver (configuration_read root (record { store = store; log = w.log })) reached (Ok value) before now few many
    → IfOk result (λ last. after_reading w (reached value) ≡ ends last) → AsksOver (configured root w) ends result before now few many
configured_reached root w store reached ends value result before now few many same one is =
    asks_made (configuration_read root (taking_of w)) (after_reading w) reached ends value result before now few many
    (subst (λ z. AsksOver (configuration_read root (record { store = z; log = w.log })) reached (Ok value) before now few many) same one) is

-- memory ran out behind it
pub configured_lost : {T U : Type 0} (root : List ℕ) (w : Watching) (store : Store) (reached : T → Reading) (ends : U → Watching) (value : T)
    (result : Result U OutOfMemory) (before now : Option (List LibraryCall)) (few many : ℕ) → store ≡ w.state.store
    → AsksOver (configuration_read root (record { store = store; log = w.log })) reached (Ok value) before now few many → IsErr result
    → AsksOver (configured root w) ends result before now few many
configured_lost root w store reached ends value result before now few many same one failed =
    asks_lost (configuration_read root (taking_of w)) (λ reading. answered (after_reading w reading)) reached ends value result before now few many
    (subst (λ z. AsksOver (configuration_read root (record { store = z; log = w.log })) reached (Ok value) before now few many) same one) failed tt

-- memory ran out within it
pub configured_cut : {T U : Type 0} (root : List ℕ) (w : Watching) (store : Store) (reached : T → Reading) (ends : U → Watching) (fault : OutOfMemory)
    (result : Result U OutOfMemory) (before now : Option (List LibraryCall)) (few many : ℕ) → store ≡ w.state.store
    → AsksOver (configuration_read root (record { store = store; log = w.log })) reached (Err fault) before now few many → IsErr result
    → AsksOver (configured root w) ends result before now few many
configured_cut root w store reached ends fault result before now few many same one failed =
    asks_cut (configuration_read root (taking_of w)) (λ reading. answered (after_reading w reading)) reached ends fault result before now few many
    (subst (λ z. AsksOver (configuration_read root (record { store = z; log = w.log })) reached (Err fault) before now few many) same one) failed (λ reading. tt)

-- what was put in its place, from a state whose documents and files were out of theirs
pub read_as : {T : Type 0} (w : Watching) (left s : State) (configuration : Configuration) (store : Store) (log : Log) (farewells : List (List ℕ)) (now : Watch)
    (result : Result T OutOfMemory) → left ≡ record w.state { store = empty_store }
    → IsEffect (settled (record left { configuration = configuration; store = store })) s farewells
    → OnOk result (now.bodies ≡ w.bodies ++ (map logged_line log.lines ++ farewells)) → OnOk result (now.logs ≡ without_lines log) → OnOk result (now.concerned ≡ true)
    → IfOk result (λ _. after_reading w (record { configuration = configuration; taking = record { store = store; log = log } }) ≡ watched_so_far s now)
read_as w left s configuration store log farewells now result empty is bodies_are logs_are concerned =
    taken_as w (settled (record w.state { configuration = configuration; store = store })) log s farewells now result
    (ap (λ (z : State). settled (record z { configuration = configuration; store = store })) (sym empty) ∙ is) bodies_are logs_are concerned

-- ---- members

-- one was read again, and was taken unless memory ran out
pub member_reached : {T U : Type 0} (path : List ℕ) (w : Watching) (store : Store) (reached : T → Passed) (ends : U → Watching) (value : T)
    (result : Result U OutOfMemory) (before now : Option (List LibraryCall)) (few many : ℕ) → store ≡ w.state.store
    → AsksOver (member_read path (record { store = store; log = w.log })) reached (Ok value) before now few many
    → IfOk result (λ last. after_member w (reached value).taking ≡ ends last) → AsksOver (member_changed path Changed w) ends result before now few many
member_reached path w store reached ends value result before now few many same one is =
    asks_made (member_read path (taking_of w)) (λ passed. after_member w passed.taking) reached ends value result before now few many
    (subst (λ z. AsksOver (member_read path (record { store = z; log = w.log })) reached (Ok value) before now few many) same one) is

-- memory ran out within it
pub member_cut : {T U : Type 0} (path : List ℕ) (w : Watching) (store : Store) (reached : T → Passed) (ends : U → Watching) (fault : OutOfMemory)
    (result : Result U OutOfMemory) (before now : Option (List LibraryCall)) (few many : ℕ) → store ≡ w.state.store
    → AsksOver (member_read path (record { store = store; log = w.log })) reached (Err fault) before now few many → IsErr result
    → AsksOver (member_changed path Changed w) ends result before now few many
member_cut path w store reached ends fault result before now few many same one failed =
    asks_cut (member_read path (taking_of w)) (λ passed. answered (after_member w passed.taking)) reached ends fault result before now few many
    (subst (λ z. AsksOver (member_read path (record { store = z; log = w.log })) reached (Err fault) before now few many) same one) failed (λ passed. tt)

-- what was read, or dropped, was put in its place, from a state whose documents and files were out of theirs
pub member_from : {T : Type 0} (w : Watching) (left s : State) (store : Store) (log : Log) (between now : Watch) (result : Result T OutOfMemory)
    → left ≡ record w.state { store = empty_store } → between.bodies ≡ w.bodies
    → IfOk result (λ _. after_member (watched_so_far left between) (record { store = store; log = log }) ≡ watched_so_far s now)
    → IfOk result (λ _. after_member w (record { store = store; log = log }) ≡ watched_so_far s now)
member_from w left s store log between now (Ok value) empty same is =
    ap (λ (z : State). after_member (record { state = z; bodies = w.bodies; log = w.log; concerned = w.concerned }) (record { store = store; log = log })) (sym empty)
    ∙ ap (λ z. after_member (record { state = left; bodies = z; log = w.log; concerned = w.concerned }) (record { store = store; log = log })) (sym same) ∙ is
member_from w left s store log between now (Err fault) empty same is = tt

-- ---- one change

-- its URI names a file
pub change_named : (root wanted : Option (List ℕ)) (path text : List ℕ) (kind : ChangeKind) (w : Watching) → wanted ≡ Some path → text ≡ path
    → change_told root wanted kind w ≡ change_told root (Some text) kind w
change_named root wanted path text kind w is same = ap (λ z. change_told root z kind w) is ∙ ap (λ z. change_told root (Some z) kind w) (sym same)

-- it names none
change_of_none : (root : Option (List ℕ)) (kind : ChangeKind) (w : Watching) → change_told root None kind w ≡ answered w
change_of_none None kind w = refl
change_of_none (Some root) kind w = refl

pub change_unnamed : (root wanted : Option (List ℕ)) (kind : ChangeKind) (w : Watching) → wanted ≡ None → change_told root wanted kind w ≡ answered w
change_unnamed root wanted kind w none = ap (λ z. change_told root z kind w) none ∙ change_of_none root kind w

-- there is no root
pub change_rootless : (root path : Option (List ℕ)) (kind : ChangeKind) (w : Watching) → root ≡ None → change_told root path kind w ≡ answered w
change_rootless root path kind w none = ap (λ z. change_told z path kind w) none

-- it is of the configuration
pub change_of_configuration : (root : Option (List ℕ)) (r path : List ℕ) (kind : ChangeKind) (w : Watching) → root ≡ Some r → is_configuration r path ≡ true
    → change_told root (Some path) kind w ≡ configured_where root w
change_of_configuration root r path kind w is here =
    ap (λ z. change_told z (Some path) kind w) is
    ∙ ap (λ b. cond b (configured r w) (cond (is_member_file (libraries w.state) path) (member_changed path kind w) (answered w))) here
    ∙ sym (ap (λ z. configured_where z w) is)

-- it is of a member
pub change_of_member : (root : Option (List ℕ)) (r path : List ℕ) (kind : ChangeKind) (w : Watching) → root ≡ Some r → is_configuration r path ≡ false
    → is_member_file (libraries w.state) path ≡ true → change_told root (Some path) kind w ≡ member_changed path kind w
change_of_member root r path kind w is other here =
    ap (λ z. change_told z (Some path) kind w) is
    ∙ ap (λ b. cond b (configured r w) (cond (is_member_file (libraries w.state) path) (member_changed path kind w) (answered w))) other
    ∙ ap (λ b. cond b (member_changed path kind w) (answered w)) here

-- it is of neither
pub change_of_other : (root : Option (List ℕ)) (r path : List ℕ) (kind : ChangeKind) (w : Watching) → root ≡ Some r → is_configuration r path ≡ false
    → is_member_file (libraries w.state) path ≡ false → change_told root (Some path) kind w ≡ answered w
change_of_other root r path kind w is other apart =
    ap (λ z. change_told z (Some path) kind w) is
    ∙ ap (λ b. cond b (configured r w) (cond (is_member_file (libraries w.state) path) (member_changed path kind w) (answered w))) other
    ∙ ap (λ b. cond b (member_changed path kind w) (answered w)) apart

-- ---- changes

-- the next change was taken
pub changes_go_on : {T : Type 0} (whole : Asking Watching) (changes : List FileChange) (i : ℕ) (change : FileChange) (w : Watching) (reached : T → Watching) (value : T)
    (before middle now : Option (List LibraryCall)) (few some many : ℕ) → GoesOn whole (changes_told (drop i changes) w) before middle few some → i < length changes
    → change ≡ get_or changes i change
    → AsksOver (change_told w.state.root (path_of change.uri) change.kind w) reached (Ok value) middle now some many
    → GoesOn whole (changes_told (drop (i + 1) changes) (reached value)) before now few many
changes_go_on whole changes i change w reached value before middle now few some many so more is one =
    goes_next whole (changes_told (drop i changes) w) (change_told w.state.root (path_of change.uri) change.kind w) (changes_told (drop (i + 1) changes)) reached value
    before middle now few some many so (λ calls. ap (λ z. changes_told z w calls) (drop-next changes i change more is)) one

-- memory ran out within the next
pub changes_cut : {T U : Type 0} (whole : Asking Watching) (changes : List FileChange) (i : ℕ) (change : FileChange) (w : Watching) (reached : T → Watching) (ends : U → Watching)
    (fault : OutOfMemory) (result : Result U OutOfMemory) (before middle now : Option (List LibraryCall)) (few some many : ℕ)
    → GoesOn whole (changes_told (drop i changes) w) before middle few some → i < length changes → change ≡ get_or changes i change
    → AsksOver (change_told w.state.root (path_of change.uri) change.kind w) reached (Err fault) middle now some many → IsErr result
    → AsksOver whole ends result before now few many
changes_cut whole changes i change w reached ends fault result before middle now few some many so more is one failed =
    goes_ends whole (changes_told (drop i changes) w) ends result before middle now few some many so
    (subst (λ z. AsksOver (changes_told z w) ends result middle now some many) (sym (drop-next changes i change more is))
    (asks_cut (change_told w.state.root (path_of change.uri) change.kind w) (changes_told (drop (i + 1) changes)) reached ends fault result middle now some many one failed
    (λ v. short_changes (drop (i + 1) changes) v)))

-- all were taken
pub changes_end : {T : Type 0} (whole : Asking Watching) (changes : List FileChange) (w : Watching) (reached : T → Watching) (value : T)
    (before now : Option (List LibraryCall)) (few many : ℕ) → GoesOn whole (changes_told changes w) before now few many → changes ≡ [] → w ≡ reached value
    → AsksOver whole reached (Ok value) before now few many
changes_end whole changes w reached value before now few many so none same =
    goes_ends whole (changes_told changes w) reached (Ok value) before now now few many many so
    (asks_nothing (changes_told changes w) reached value now many (λ more. ap (λ z. changes_told z w more) none ∙ ap (λ z. Came z more) same))

-- ---- behind a message on files

-- what it came to was told, and every open program was queued, unless memory ran out
pub watched_reached : {T U : Type 0} (first : Asking Watching) (reached : T → Watching) (ends : U → Effect) (value : T) (result : Result U OutOfMemory)
    (before now : Option (List LibraryCall)) (few many : ℕ) → AsksOver first reached (Ok value) before now few many
    → IfOk result (λ last. after_watching (reached value) ≡ ends last) → AsksOver (first >>= (λ w. answered (after_watching w))) ends result before now few many
watched_reached first reached ends value result before now few many one is = asks_made first after_watching reached ends value result before now few many one is

-- memory ran out within it
pub watched_cut : {T U : Type 0} (first : Asking Watching) (reached : T → Watching) (ends : U → Effect) (fault : OutOfMemory) (result : Result U OutOfMemory)
    (before now : Option (List LibraryCall)) (few many : ℕ) → AsksOver first reached (Err fault) before now few many → IsErr result
    → AsksOver (first >>= (λ w. answered (after_watching w))) ends result before now few many
watched_cut first reached ends fault result before now few many one failed =
    asks_cut first (λ w. answered (after_watching w)) reached ends fault result before now few many one failed (λ w. tt)

-- the changes of a message, and what is done behind them
pub watched_as : (s : State) (changes : List FileChange) (w : Watching) → w ≡ unconcerned s
    → effect s (DidChangeWatchedFiles changes) ≡ (changes_told changes w >>= (λ z. answered (after_watching z)))
watched_as s changes w same = ap (λ z. changes_told changes z >>= (λ v. answered (after_watching v))) (sym same)

-- the client is ready, where there is a root
pub begun_as : (root : Option (List ℕ)) (s : State) (w : Watching) → is_some root ≡ true → w ≡ unconcerned s
    → begun root s ≡ (configured_where root w >>= (λ z. answered (after_watching z)))
begun_as None s w some same = let bad : false ≡ true = some in cc
begun_as (Some root) s w some same = ap (λ z. configured root z >>= (λ v. answered (after_watching v))) (sym same)

-- and where there is none
pub begun_rootless : (root : Option (List ℕ)) (s : State) → is_some root ≡ false → begun root s ≡ answered (quiet (queue_all s))
begun_rootless None s none = refl
begun_rootless (Some root) s none = let bad : true ≡ false = none in cc

-- ---- where the session is active

-- a message on files is taken there, and passed over elsewhere
pub watched_active : (s : State) (changes : List FileChange) → is_active s.stage ≡ true → asked s (Ok (DidChangeWatchedFiles changes)) ≡ effect s (DidChangeWatchedFiles changes)
watched_active s changes active = by_stage s.stage active where
  by_stage : (stage : Stage) → is_active stage ≡ true → asked_at stage s (Ok (DidChangeWatchedFiles changes)) ≡ effect s (DidChangeWatchedFiles changes)
  by_stage Fresh is = cc
  by_stage Active is = refl
  by_stage Closing is = cc
  by_stage (Ended closed) is = cc

pub watched_passed : (s : State) (changes : List FileChange) → is_active s.stage ≡ false → asked s (Ok (DidChangeWatchedFiles changes)) ≡ answered (quiet s)
watched_passed s changes passive = by_stage s.stage passive where
  by_stage : (stage : Stage) → is_active stage ≡ false → asked_at stage s (Ok (DidChangeWatchedFiles changes)) ≡ answered (quiet s)
  by_stage Fresh is = refl
  by_stage Active is = cc
  by_stage Closing is = refl
  by_stage (Ended closed) is = refl

pub initialized_active : (s : State) → is_active s.stage ≡ true → asked s (Ok Initialized) ≡ begun s.root s
initialized_active s active = by_stage s.stage active where
  by_stage : (stage : Stage) → is_active stage ≡ true → asked_at stage s (Ok Initialized) ≡ begun s.root s
  by_stage Fresh is = cc
  by_stage Active is = refl
  by_stage Closing is = cc
  by_stage (Ended closed) is = cc

pub initialized_passed : (s : State) → is_active s.stage ≡ false → asked s (Ok Initialized) ≡ answered (quiet s)
initialized_passed s passive = by_stage s.stage passive where
  by_stage : (stage : Stage) → is_active stage ≡ false → asked_at stage s (Ok Initialized) ≡ answered (quiet s)
  by_stage Fresh is = refl
  by_stage Active is = cc
  by_stage Closing is = refl
  by_stage (Ended closed) is = refl
