use Rattle.x25_world.proofs.HealingRounds.{brings_all, rest_shows_all}
use Rattle.x25_world.proofs.healing.healing_brings_all.Goals as goal

pub returns-clause-shows : goal.returns-clause-shows
returns-clause-shows c =
    let waits = c.messages_wait_for_users.ensures in
    λ cfg fine from begins past octets most some. rest_shows_all waits.left waits.unpulled cfg fine from begins past octets most some
    c.stations_heal.ensures.rest

pub returns-clause-arrives : goal.returns-clause-arrives
returns-clause-arrives c =
    let waits = c.messages_wait_for_users.ensures in
    λ cfg fine from begins past octets most some. brings_all waits.left waits.unpulled cfg fine from begins past octets most some
    c.stations_heal.ensures.heals_with_puts
