-- Sites as they are kept. No public clause cites this file. This project.
use Rattle.document_store.specs.Store.{Store}
use Rattle.symbol_answers.specs.declared.kept_site.KeptSite.{KeptSite}

-- the store of a site that is kept
abbrev pub store_in : KeptSite → Store
store_in kept = kept.store.now.store
