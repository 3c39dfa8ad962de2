-- What a refusal of a lower layer is here (this project).
use Rattle.file_uri.specs.declared.UriFault.{UriFault}
use Rattle.file_uri.specs.declared.UriFault.TheVariants as uri
use Rattle.text_pool.specs.declared.fault.PoolFault.{PoolFault}
use Rattle.text_pool.specs.declared.fault.PoolFault.TheVariants as pool
use Rattle.document_store.specs.declared.fault.StoreFault.{StoreFault}
use Rattle.document_store.specs.declared.fault.StoreFault.TheVariants.{BadUri, TextTooLong, OutOfMemory}

-- a URI without a path
abbrev pub of_uri : UriFault → StoreFault
of_uri uri.BadUri = BadUri
of_uri uri.OutOfMemory = OutOfMemory

-- a text that the pool does not take
abbrev pub of_pool : PoolFault → StoreFault
of_pool pool.TooLong = TextTooLong
of_pool pool.OutOfMemory = OutOfMemory
