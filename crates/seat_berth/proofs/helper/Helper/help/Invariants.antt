use Rattle.seat_berth.proofs.helper.Helper.help.Given as goal

abbrev pub ghosts-take : goal.ghosts-take
ghosts-take a = record { home = a.place.now.key }
