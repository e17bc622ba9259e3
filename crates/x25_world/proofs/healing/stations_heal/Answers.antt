use Rattle.x25_world.proofs.{HealingLemmas.{rest_shows, heals_where, drains_where}, HealingPuts.{heals_with_puts}, rows.RowLemmas.{more_arrives}}
use Rattle.x25_world.proofs.healing.stations_heal.Goals as goal

pub returns : goal.returns
returns c =
    let laws = c.laws_below.ensures in
    let keeps = laws.stations.connect_keeps in
    record {
      rest = rest_shows laws keeps c.rest_shows.ensures.sessions c.stations_meet_in_sessions.ensures.arrives;
      heals = heals_where laws keeps c.one_busy_heals.ensures.each_session;
      heals_with_puts = heals_with_puts laws keeps c.puts_heal.ensures.sessions;
      worked = more_arrives;
      drains = drains_where laws keeps c.drains_end.ensures.sessions;
    }
