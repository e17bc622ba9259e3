-- What is found, without the memory that holds it.
use Rattle.std.specs.Prelude.{Option, Some, None, List, [], ◌∷◌, map}
use Rattle.x25_bits.specs.Found.{Class, Content, Abort, Short, Long, Ragged}
use Rattle.x25_bits.specs.declared.found.Found.{Found}
use Rattle.x25_bits.specs.declared.found.Found.TheVariants.{Content as FoundContent, Abort as FoundAbort}
use Rattle.x25_bits.specs.declared.found.Found.TheVariants.{Short as FoundShort, Long as FoundLong}
use Rattle.x25_bits.specs.declared.found.Found.TheVariants.{Ragged as FoundRagged}
use Rattle.x25_bits.specs.declared.found.Span.{Span}
use Rattle.x25_bits.specs.declared.found.Span.TheVariants.{Content as SpanContent, Abort as SpanAbort}
use Rattle.x25_bits.specs.declared.found.Span.TheVariants.{Short as SpanShort, Long as SpanLong, Ragged as SpanRagged}

abbrev pub plain : Found → Class
plain (FoundContent octets) = Content octets.items
plain FoundAbort = Abort
plain FoundShort = Short
plain FoundLong = Long
plain FoundRagged = Ragged

abbrev pub plains : List Found → List Class
plains founds = map plain founds

abbrev pub plain_span : Span → Class
plain_span (SpanContent octets) = Content octets.now
plain_span SpanAbort = Abort
plain_span SpanShort = Short
plain_span SpanLong = Long
plain_span SpanRagged = Ragged

abbrev pub listed_span : Option Span → List Class
listed_span None = []
listed_span (Some span) = plain_span span ∷ []
