-- What the values of the program mean.
use Rattle.call_knowledge.specs.declared.meaning.Meaning.{Meaning}
use Rattle.call_knowledge.specs.declared.meaning.Meaning.TheVariants as variant
use Rattle.call_knowledge.specs.Knowledge as knowledge

abbrev pub meaning_of : Meaning → knowledge.Meaning
meaning_of variant.Unknown = knowledge.Unknown
meaning_of (variant.System text) = knowledge.SystemText text.now
meaning_of (variant.Scalar declared) = knowledge.Scalar declared
meaning_of (variant.Array declared) = knowledge.Array declared
