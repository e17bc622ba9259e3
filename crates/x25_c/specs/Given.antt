-- What is given beside a call, an acceptance or a clearing, as C hands it over (profile).
use Rattle.std.specs.Prelude.{◌==◌, ◌&&◌, Bool, not, length, if◌then◌else◌, Option, Some, None}
use Rattle.x25_layer.specs.Calls.{LayerRequest}
use Rattle.x25_given.specs.Given.{PlainGiven}
use Rattle.x25_station.specs.Command.{Command, requesting}
use Rattle.x25_c.specs.declared.given.Given.{Given}

-- all of it is zeros
abbrev pub gives_nothing : Given → Bool
gives_nothing g = length g.facilities.now == 0 && (length g.user.now == 0 && not g.d)

abbrev pub given_by : Given → Option PlainGiven
given_by g = if gives_nothing g then None
    else Some (record { facilities = g.facilities.now; user = g.user.now; d = g.d })

-- where nothing is given a request is as without it
abbrev pub asked_with : Given → LayerRequest → Command
asked_with g request = requesting (given_by g) request
