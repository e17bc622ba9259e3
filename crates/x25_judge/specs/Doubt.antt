-- Which frames a trace may lack, and what they would explain of what is told (profile).
use Rattle.std.specs.Prelude.{Bool, true, false, ◌&&◌, ◌||◌, if◌then◌else◌, Option, Some, None}
use Rattle.x25_bits.specs.declared.role.{Role.{Role}, Role.TheVariants.{Dte, Dce}}
use Rattle.x25_judge.specs.Rule.{is_of_manners}
use Rattle.x25_judge.specs.declared.doubt.At.TheVariants as at
use Rattle.x25_judge.specs.declared.{doubt.Frames.TheVariants.{Nothing, Lost, Any}, rule.Rule.{Rule}}
use Rattle.x25_judge.specs.declared.doubt.{At.{At}, Frames.{Frames}, Lack.{Lack}}
use Rattle.x25_judge.specs.declared.rule.Rule.TheVariants.{NoFrame, Differs, Packet, UaUnasked}
use Rattle.x25_packet_judge.specs.declared.packet_rule.PacketRule.TheVariants.{NoPacket}
use Rattle.x25_possible_links.specs.code.Steps.{awaits_before, has_request}
use Rattle.x25_possible_links.specs.declared.set.LinkSet.{LinkSet}

-- of the far end; where SABM or DISC waits for it, its UA may have been lost
abbrev pub lost : LinkSet → Frames
lost s = if has_request s.way.items then Any else Lost

-- In front of an end all is there that it sent, and all that came to it.
abbrev pub lack_at : At → Role → LinkSet → Frames
lack_at at.Line from s = Nothing
lack_at at.Dte Dte s = Nothing
lack_at at.Dte Dce s = lost s
lack_at at.Dce Dte s = lost s
lack_at at.Dce Dce s = Nothing
lack_at at.Either from s = Any

-- and in front of the trace a UA may stand that an end awaits
abbrev pub lack : At → Role → LinkSet → Frames
lack at from s = if awaits_before s then Any else lack_at at from s

-- No frame that is missing makes a frame of octets that spell none. A number behind I frames that the line lost is a
-- new one, and UA behind a UA that it lost may answer what waits.
abbrev pub explains_as : Frames → Rule → Bool
explains_as Nothing rule = false
explains_as Lost Differs = true
explains_as Lost UaUnasked = true
explains_as Lost rule = is_of_manners rule
explains_as Any NoFrame = false
explains_as Any rule = true

-- by what was sent before it
abbrev pub is_of_packets : Rule → Bool
is_of_packets (Packet NoPacket) = false
is_of_packets (Packet rule) = true
is_of_packets rule = false

-- packets that weren't seen explain what is told of others
abbrev pub explains : Lack → Rule → Bool
explains which rule = (which.packets && is_of_packets rule) || explains_as which.frames rule

abbrev pub explains_told : Lack → Option Rule → Bool
explains_told which None = false
explains_told which (Some rule) = explains which rule
