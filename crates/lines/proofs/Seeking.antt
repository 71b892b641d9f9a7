-- What the search for a byte is proved by.
use Rattle.lines.specs.Until.{seeking_none, seeking_more, seeking_found, seeking_all, until_within}

pub ruleset seeking = (seeking_none, seeking_more, seeking_found, seeking_all, until_within)
