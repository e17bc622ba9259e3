-- What the laws of the links, the layers and the stations below say, which the laws of a world rest on.
use Rattle.std.specs.Prelude.{Bool}
use Rattle.x25_frame.specs.laws.ReadingLaw.{ReadsSpelled}
use Rattle.x25_link.specs.laws.NoteLaw.{TakeTells, TakeHandsUp, TimerTells, PutTells, ConnectTells, DisconnectTells}
use Rattle.x25_link.specs.laws.NoteLaw.{AbandonTells, RelinkTells}
use Rattle.x25_link.specs.laws.SetUp.{TakeWaits, TakeSetsUp, RelinkIsTwoSteps}
use Rattle.x25_line.specs.laws.SessionClaims.{MetAreInOrder, UnmetHandNothingUp, OnlyBegunHaveLists, EachMeetsLatest}
use Rattle.x25_line.specs.laws.SessionClaims.{IdleHasArrived, NoSessionSendsFrmr, AllSessionsSendWhole}
use Rattle.x25_line.specs.laws.SessionEvents.{EachEventHandsInSession, EachEventMeetsLatest, NoneBeginUnasked}
use Rattle.x25_line.specs.laws.SessionNumbers.{StandingGoesAlong}
use Rattle.x25_layer.specs.declared.ranges.Ranges.{Ranges}
use Rattle.x25_layer.specs.laws.Law.{KeepsOrder, IsQuietWorld, IsLawfulWorld, ArrivesAll}
use Rattle.x25_layer.specs.{laws.NameLaw.{NamesAreCounted}, laws.Acknowledged.{AcknowledgedAreHandedUp}}
use Rattle.x25_layer.specs.laws.Apart.{AlwaysApart}
use Rattle.x25_layer.specs.laws.ApartLaw.{IsOverLinks, RestartsFirst, BeginsAlone, OwnMovesDecide, EventsRunOn}
use Rattle.x25_station.specs.laws.JoinLaw.{RequestIsJoined, ReceiveIsJoined, QuietIsJoined, DownIsJoined, UpIsJoined}
use Rattle.x25_station.specs.laws.GivenLaw.{GivenIsJoined, GivenIsRead, GivenIsTold, GivenIsWritten}
use Rattle.x25_station.specs.laws.KeepLaw.{ConnectKeeps, TimerKeeps, RequestKeeps, GivenKeeps, CommandKeeps}
use Rattle.x25_station.specs.{laws.KeepLaw.{ReceiveKeeps}, laws.ReadLaw.{PutsAreReadable}}
use Rattle.x25_packet.specs.{laws.ReadingLaw.{ReadsWhatIsSpelled}, laws.TakingLaw.{TakesWhatIsSpelled}}
use Rattle.x25_line.specs.laws.SessionClaims as line

-- those of one station
pub record Laws : Type 0 where
  pub readable : PutsAreReadable
  pub request : RequestIsJoined
  pub given : GivenIsJoined
  pub given_read : GivenIsRead
  pub given_written : GivenIsWritten
  pub given_told : GivenIsTold
  pub receive : ReceiveIsJoined
  pub quiet : QuietIsJoined
  pub down : DownIsJoined
  pub up : UpIsJoined
  pub connect_keeps : ConnectKeeps
  pub timer_keeps : TimerKeeps
  pub request_keeps : RequestKeeps
  pub given_keeps : GivenKeeps
  pub command_keeps : CommandKeeps
  pub receive_keeps : ReceiveKeeps
  pub take_tells : TakeTells
  pub take_hands_up : TakeHandsUp
  pub timer_tells : TimerTells
  pub put_tells : PutTells
  pub connect_tells : ConnectTells
  pub disconnect_tells : DisconnectTells
  pub abandon_tells : AbandonTells
  pub relink_tells : RelinkTells
  pub relinks : RelinkIsTwoSteps
  pub take_waits : TakeWaits
  pub take_sets_up : TakeSetsUp
  pub reads : ReadsSpelled
  pub grammar : ReadsWhatIsSpelled
  pub taken : TakesWhatIsSpelled

-- those of one station, of two links over set-up and re-set-up, and of two layers of which each end is by itself
pub record SessionLaws : Type 0 where
  pub stations : Laws
  pub step : line.Throughout line.MeetInStep
  pub order : line.Throughout MetAreInOrder
  pub unmet : line.Throughout UnmetHandNothingUp
  pub begun : line.Throughout OnlyBegunHaveLists
  pub agree : line.Throughout EachMeetsLatest
  pub meets : line.Throughout EachEventMeetsLatest
  pub idle : line.Throughout IdleHasArrived
  pub unasked : line.Throughout NoneBeginUnasked
  pub no_frmr : line.Throughout NoSessionSendsFrmr
  pub whole : line.Throughout AllSessionsSendWhole
  pub machine : StandingGoesAlong
  pub hands : EachEventHandsInSession
  pub layers_order : (long_data : Bool) (channels : Ranges) → AlwaysApart KeepsOrder long_data channels
  pub layers_quiet : (long_data : Bool) (channels : Ranges) → AlwaysApart (IsQuietWorld channels) long_data channels
  pub layers_lawful : (long_data : Bool) (channels : Ranges) → AlwaysApart IsLawfulWorld long_data channels
  pub layers_arrive : (long_data : Bool) (channels : Ranges) → AlwaysApart ArrivesAll long_data channels
  pub layers_named : (long_data : Bool) (channels : Ranges) → AlwaysApart NamesAreCounted long_data channels
  pub layers_restarted : (long_data : Bool) (channels : Ranges) → AlwaysApart RestartsFirst long_data channels
  pub layers_acknowledged : (long_data : Bool) (channels : Ranges)
      → AlwaysApart AcknowledgedAreHandedUp long_data channels
  pub own : OwnMovesDecide
  pub behind : EventsRunOn
  pub alone : BeginsAlone
  pub over_links : (long_data : Bool) (channels : Ranges) → IsOverLinks long_data channels
