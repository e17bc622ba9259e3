-- What the laws of frames and of one link say, in the crates below, which the laws of two links rest on.
use Rattle.x25_link.specs.laws.NoteLaw.{TakeTells, TakeContinues, TimerTells, DisconnectTells, AbandonTells}
use Rattle.x25_link.specs.{laws.WindowLaw.{StationLaws}, laws.RestLaw.{RestLaws}, laws.AnswerLaw.{AnswerLaws}}
use Rattle.x25_link.specs.laws.SetUp.{SetUpLaws}

-- those of a link that is set up once
pub record Laws : Type 0 where
  pub window : StationLaws
  pub set_up : SetUpLaws
  pub take_tells : TakeTells
  pub timer_tells : TimerTells
  pub disconnect_tells : DisconnectTells
  pub abandon_tells : AbandonTells

-- those of a link over set-up and re-set-up
pub record SessionLaws : Type 0 where
  pub laws : Laws
  pub continues : TakeContinues

-- those of healing
pub record HealingLaws : Type 0 where
  pub sessions : SessionLaws
  pub rest : RestLaws
  pub answers : AnswerLaws
