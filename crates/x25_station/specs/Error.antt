-- The number of each refusal of a station (profile).
use Rattle.std.specs.Prelude.{ℕ}
use Rattle.x25_link.specs.declared.error.LinkError.{LinkError}
use Rattle.x25_link.specs.declared.error.LinkError.TheVariants as link_error
use Rattle.x25_link.specs.Error as link
use Rattle.x25_layer.specs.declared.error.LayerError.{LayerError}
use Rattle.x25_layer.specs.declared.error.LayerError.TheVariants as layer_error
use Rattle.x25_layer.specs.Error as layer
use Rattle.x25_station.specs.declared.error.StationError.{StationError}
use Rattle.x25_station.specs.declared.error.StationError.TheVariants.{BadConfig, Link, Layer, NoMemory}

abbrev pub number_of : StationError → ℕ
number_of BadConfig = 14
number_of (Link error) = link.number_of error
number_of (Layer error) = layer.number_of error
number_of NoMemory = 70

-- want of memory has one number, wherever it is met

abbrev pub of_link : LinkError → StationError
of_link link_error.NoMemory = NoMemory
of_link e = Link e

abbrev pub of_layer : LayerError → StationError
of_layer layer_error.NoMemory = NoMemory
of_layer e = Layer e
