-- What a leg and a call stand for.
use Rattle.x25_relay.specs.code.Waiting.{waiting}
use Rattle.x25_crossing.specs.Crossing.{PlainLeg, Two, PlainCrossing}
use Rattle.x25_crossing.specs.declared.leg.Leg.{Leg}
use Rattle.x25_crossing.specs.declared.crossing.Crossing.{Crossing}

abbrev pub plain_leg : Leg → PlainLeg
plain_leg x = record {
  stage = x.stage;
  messages = waiting x.messages;
  interrupts = waiting x.interrupts;
  slowed = x.is_slowed;
  most = x.messages.most;
}

abbrev pub plain_two : Leg → Leg → Two
plain_two this other = record { this = plain_leg this; other = plain_leg other }

abbrev pub plain : Crossing → PlainCrossing
plain x = record { near = plain_leg x.near; far = plain_leg x.far }
