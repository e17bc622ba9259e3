use Rattle.x25_world.{proofs.Names.{ℕ, ◌+◌, ◌*◌, ◌≤◌, arith, Dte, Dce, settings_from}, specs.laws.OctetLaw.{line_octets}}
use Rattle.x25_station.specs.laws.OctetLaw as station
use Rattle.x25_world.proofs.law.worlds_hold_few.Goals as goal

-- both stations hold no more than so many, and 236,796
both : (n dte dce line : ℕ) → dte ≤ 236796 + n → dce ≤ 236796 + n → (dte + dce) + (4103 * 34 + (4103 * 25 + (65535 + 128 * 5)) + line) ≤ 781844 + 2 * n + line
both n dte dce line first second = omega (arith, first, second)

pub returns : goal.returns
returns c = λ cfg v w fits.
    let few = c.stations_hold_few.ensures.octets_in_all in
    both ((589815 + cfg.channels.message) * cfg.channels.count) (station.octets_held v.dte) (station.octets_held v.dce) (line_octets v)
    (few (settings_from Dte cfg) v.dte w.near fits.dte) (few (settings_from Dce cfg) v.dce w.far fits.dce)
