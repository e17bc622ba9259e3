-- What a call and a list of calls stand for.
use Rattle.std.specs.Prelude.{List, map}
use Rattle.x25_crossing.specs.code.Plain.{plain as plain_crossing}
use Rattle.x25_switch.specs.Calls.{PlainCall}
use Rattle.x25_switch.specs.declared.call.Call.{Call}

abbrev pub plain : Call → PlainCall
plain c = record { near = c.near; far = c.far; crossing = plain_crossing c.crossing; lingers = c.lingers }

abbrev pub plains : List Call → List PlainCall
plains cs = map plain cs
