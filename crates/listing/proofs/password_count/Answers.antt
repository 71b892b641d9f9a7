use Rattle.std.proofs.Common.{◌≡◌, length, rules}
use Rattle.listing.specs.Laws.{passwords_counted}
use Rattle.listing.proofs.password_count.Goals as goal

pub returns : goal.returns
returns c = let h : length c.args.o.now.passwords ≡ 4 = search rules in rw (← passwords_counted c.args.o.now h) (search rules)
